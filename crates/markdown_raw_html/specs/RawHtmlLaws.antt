-- Laws of raw HTML, in a reader's words.
use Rattle.std.specs.Prelude.{◌≡◌, ◌≤◌, ◌<◌, ℕ, ◌-◌, Bool, false, List, length, drop, IfSome, IsTrue}
use Rattle.markdown_base.specs.Bytes.{greater_than, less_than}
use Rattle.markdown_scan.specs.Beginnings.{begins_with}
use Rattle.markdown_scan.specs.ScanLaws.{StandsBetween}
use Rattle.markdown_raw_html.specs.HtmlTag.{html_tag}
use Rattle.markdown_raw_html.specs.RawHtml.{through_first}

-- a tag begins with `<` and ends with `>`
abbrev pub TagStandsInAngleBrackets : List ℕ → Type 0
TagStandsInAngleBrackets bytes = IfSome (html_tag bytes) (StandsBetween less_than greater_than bytes)

-- the closing bytes are at this byte offset
abbrev pub closes_at : List ℕ → List ℕ → ℕ → Bool
closes_at closing bytes place = begins_with closing (drop place bytes)

-- the closing bytes are the last of the first n bytes, and do not occur earlier
abbrev pub IsFirstClose : List ℕ → List ℕ → ℕ → Type 0
IsFirstClose closing bytes n =
    (length closing ≤ n) × IsTrue (closes_at closing bytes (n - length closing))
    × ((place : ℕ) → place < n - length closing → closes_at closing bytes place ≡ false)

-- what ends with closing bytes ends with their first occurrence
abbrev pub EndsAtFirstClose : List ℕ → List ℕ → Type 0
EndsAtFirstClose closing bytes = IfSome (through_first closing bytes) (IsFirstClose closing bytes)
