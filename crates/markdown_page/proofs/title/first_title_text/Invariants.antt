-- The lines that are left give what all give.
use Rattle.std.proofs.Common.{◌≡◌, ℕ, true, IsUtf8, chars}
use Rattle.std.specs.Char.{char_set_contains}
use Rattle.std.specs.Str.Iter.{split_has_more, split_pattern, split_text}
use Rattle.markdown_page.specs.MetadataTitle.{first_title_text, is_line_break, metadata_lines}
use Rattle.markdown_page.proofs.LinesLemmas.{lines_left}
use Rattle.markdown_page.proofs.title.first_title_text.Given as goal

abbrev pub invariant-loop-line : goal.invariant-loop-line
invariant-loop-line l = record {
  utf8 : split_has_more l.line-iterator ≡ true → IsUtf8 (split_text l.line-iterator);
  breaks : (c : ℕ) → char_set_contains (split_pattern l.line-iterator) c ≡ is_line_break c;
  same : first_title_text l.kind (lines_left (split_has_more l.line-iterator) (split_text l.line-iterator))
      ≡ first_title_text l.kind (metadata_lines (chars l.text));
}
