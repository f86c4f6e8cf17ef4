-- The line feeds so far are counted.
use Rattle.std.proofs.Common.{◌≡◌, ◌+◌, ◌==◌, count_by, take}
use Rattle.markdown_base.specs.Bytes.{line_feed}
use Rattle.markdown_tool_output.proofs.text.line_of.Given as goal

abbrev pub invariant-bytes : goal.invariant-bytes
invariant-bytes l = l.line ≡ count_by (λ b. b == line_feed) (take l.at l.bytes) + 1
