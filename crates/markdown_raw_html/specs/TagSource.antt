-- A tag in a source whose lines may have prefixes: where it ends, and its bytes without prefixes.
use Rattle.std.specs.Prelude.{ℕ, ◌+◌, ◌-◌, ◌==◌, List, Option, Some, None, if◌then◌else◌, drop, take, length}
use Rattle.std.specs.Option.{option_map}
use Rattle.markdown_raw_html.specs.HtmlTag.{html_tag}
use Rattle.markdown_raw_html.specs.TagText.{source_after, text_in}

-- the length in the source of a tag of n bytes, with its prefixes, and without them
abbrev pub tag_lengths : (List ℕ → Option ℕ) → List ℕ → ℕ → ℕ × ℕ
tag_lengths skipped source n = (length source - length (source_after skipped n source), n)

-- the tag of these lengths at the beginning of a source, which `before` bytes precede: the byte offset after it, and
-- its bytes without prefixes if it contains prefixes
abbrev pub tag_of : (List ℕ → Option ℕ) → ℕ → List ℕ → ℕ × ℕ → ℕ × Option (List ℕ)
tag_of skipped before source lengths = (
  before + lengths.0,
  if lengths.1 == lengths.0 then None else Some (take lengths.1 (text_in skipped source)),
)

-- the tag that begins at a byte offset in the source
abbrev pub tag_at : (List ℕ → Option ℕ) → List ℕ → ℕ → Option (ℕ × Option (List ℕ))
tag_at skipped source place =
    option_map (λ n. tag_of skipped place (drop place source)
    (tag_lengths skipped (drop place source) n))
    (html_tag (text_in skipped (drop place source)))
