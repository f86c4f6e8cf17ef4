-- The text of a span, and what was appended to its table: the terms of private contracts.
use Rattle.std.specs.Prelude.{◌≡◌, ℕ, ◌<◌, ◌≤◌, List, length, slice_range}
use Rattle.std.specs.Str.{IsCharBoundary}
use Rattle.markdown_base.specs.declared.index.CowIndex.{CowIndex}
use Rattle.markdown_document.specs.EnclosingBlocks.{EnclosingBlocks}
use Rattle.markdown_document.specs.Origins.{Origin, origin_at}
use Rattle.markdown_document.specs.PlacedNodes.{IsSlicedOf}
use Rattle.markdown_document.specs.Tables.{Tables, text_at}
use Rattle.markdown_document.specs.NamedEntries.{HasGrown}
use Rattle.markdown_document.specs.Setting.{Setting}
use Rattle.markdown_spans.specs.CodeText.{span_origin}
use Rattle.markdown_spans.specs.Finds.{span_between}
use Rattle.markdown_spans.specs.declared.span_text.SpanKind.{SpanKind}

-- the bytes from one offset to another can be cut out of a text
pub record CanCut (source : List ℕ) (start end : ℕ) : Type 0 where
  pub ordered : start ≤ end
  pub from : IsCharBoundary source start
  pub to : IsCharBoundary source end

-- the text of a span between two byte offsets
abbrev pub text_between : Setting → EnclosingBlocks → SpanKind → (start end : ℕ) → List ℕ
text_between s above kind start end = (span_between s above kind start end).bytes

-- the origin of that text
abbrev pub origin_between : Setting → EnclosingBlocks → (start end : ℕ) → Origin
origin_between s above start end = span_origin above.in_table (slice_range s.text start end)

-- the text of a span between two byte offsets, of this origin, was appended, with the next free number
pub record StoresText (source : List ℕ) (start end : ℕ) (tables tables' : Tables) (cow : CowIndex) (origin : Origin)
    : Type 0 where
  pub grown : HasGrown tables tables'
  pub number : cow.0 ≡ length tables.cows
  pub within : cow.0 < length tables'.cows
  pub origin_is : origin_at tables'.cows cow.0 ≡ origin
  pub slice : IsSlicedOf source start end (origin_at tables'.cows cow.0) (text_at tables'.cows cow.0)
