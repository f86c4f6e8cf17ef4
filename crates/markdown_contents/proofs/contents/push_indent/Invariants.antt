use Rattle.std.proofs.Common.{◌≡◌, ◌++◌, string_bytes}
use Rattle.markdown_contents.specs.Contents.{indent}
use Rattle.markdown_contents.proofs.contents.push_indent.Given as goal

-- the indent so far
abbrev pub invariant-loop : goal.invariant-loop
invariant-loop l = string_bytes l.list ≡ string_bytes l.fn.list ++ indent l.counter
