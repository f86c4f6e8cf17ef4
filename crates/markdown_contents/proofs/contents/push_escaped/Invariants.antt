use Rattle.std.proofs.Common.{◌≡◌, ◌++◌, IsUtf8, string_bytes}
use Rattle.std.specs.Str.Iter.{chars_rest}
use Rattle.markdown_contents.specs.Contents.{escaped}
use Rattle.markdown_contents.proofs.contents.push_escaped.Given as goal

-- what is written so far, and what is left
abbrev pub invariant-loop-c : goal.invariant-loop-c
invariant-loop-c l = record {
  utf8 : IsUtf8 (chars_rest l.c-iterator);
  written : string_bytes l.list ++ escaped (chars_rest l.c-iterator) ≡ string_bytes l.fn.list ++ escaped l.text;
}
