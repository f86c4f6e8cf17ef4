-- What is left ends where the search stands, and white space alone was passed.
use Rattle.std.proofs.Common.{◌≡◌, IsUtf8, chars, length}
use Rattle.std.specs.Str.Iter.{chars_rest}
use denote.Text.{Utf8}
use denote.Shadow.{shadow}
use Rattle.markdown_page.specs.MetadataTitle.{up_to_gap}
use Rattle.markdown_page.proofs.line.up_to_gap.Given as goal

abbrev pub invariant-loop-c : goal.invariant-loop-c
invariant-loop-c l = record {
  text : shadow (Utf8 l.left);
  utf8 : IsUtf8 (chars_rest l.rest);
  left : l.left ≡ chars_rest l.rest;
  passed : up_to_gap (chars (chars_rest l.rest)) ≡ up_to_gap (chars l.text);
}

abbrev pub decreases-loop-c : goal.decreases-loop-c
decreases-loop-c l = length (chars_rest l.rest)
