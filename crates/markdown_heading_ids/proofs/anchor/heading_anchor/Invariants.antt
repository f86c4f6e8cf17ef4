use Rattle.std.proofs.Common.{◌≡◌, ◌++◌, IsUtf8, chars, flat_map, string_bytes}
use Rattle.std.specs.Str.Iter.{chars_rest}
use Rattle.markdown_heading_ids.specs.Anchors.{anchor_part, heading_anchor}
use Rattle.markdown_heading_ids.proofs.anchor.heading_anchor.Given as goal

-- what is written so far, and what is left
abbrev pub invariant-loop-c : goal.invariant-loop-c
invariant-loop-c l = record {
  utf8 : IsUtf8 (chars_rest l.c-iterator);
  written : string_bytes l.anchor ++ flat_map anchor_part (chars (chars_rest l.c-iterator)) ≡ heading_anchor l.words;
}
