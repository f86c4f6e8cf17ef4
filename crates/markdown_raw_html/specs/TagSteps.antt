-- The source after a byte and after a part of a tag, as the scanner reads them, for private clauses: tags are defined
-- in `HtmlTag` and `TagSource`.
use Rattle.std.specs.Prelude.{ℕ, List, [], ◌∷◌, Option, Some, None}
use Rattle.std.specs.Option.{option_map}
use Rattle.markdown_raw_html.specs.HtmlTag.{TagPart}
use Rattle.markdown_raw_html.specs.TagText.{source_after, source_after_byte, text_in}

-- the next byte of the text, and the source from the following byte of the text on
abbrev pub first_byte : (List ℕ → Option ℕ) → List ℕ → Option (ℕ × List ℕ)
first_byte skipped [] = None
first_byte skipped (b ∷ source) = Some (b, source_after_byte skipped b source)

-- the source after a part
unfoldable pub after_part : (List ℕ → Option ℕ) → TagPart → List ℕ → Option (List ℕ)
after_part skipped part source =
    option_map (λ n. source_after skipped n source) (part (text_in skipped source))
