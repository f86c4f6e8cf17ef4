-- The lines of a paragraph, as they are held back, as lines of their text.
use Rattle.std.specs.Prelude.{◌≡◌, ℕ, ◌+◌, ◌≤◌, ◌<◌, false, List, [], ◌∷◌, ◌++◌, Some, drop, slice_get, slice_index}
use Rattle.std.specs.Prelude.{slice_range}
use Rattle.std.specs.Str.{IsCharBoundary}
use Rattle.markdown_base.specs.Bytes.{open_bracket}
use Rattle.markdown_lines.specs.declared.held_line.HeldLine.{HeldLine}
use Rattle.markdown_lines.specs.Lines.{IsLineEnd, ending_length, is_space_or_tab}
use Rattle.markdown_lines.specs.SourceLines.{SourceLine}

-- a line of a paragraph: from its first byte that is neither a space nor a tab up to where the line ends, and then its
-- line ending
pub record IsHeldLine (text : List ℕ) (line : HeldLine) : Type 0 where
  pub boundary : IsCharBoundary text line.start
  pub some : line.start < line.stop
  pub first : is_space_or_tab (slice_index text line.start) ≡ false
  pub content : IsLineEnd text line.start line.stop
  pub ends : line.next ≡ line.stop + ending_length (drop line.stop text)

-- such lines, in order and none over another, from a byte offset on
abbrev pub AreHeldFrom : List ℕ → ℕ → List HeldLine → Type 0
AreHeldFrom text from [] = Unit
AreHeldFrom text from (line ∷ lines) =
    (from ≤ line.start) × (IsHeldLine text line × AreHeldFrom text line.next lines)

-- the lines of a paragraph
abbrev pub AreHeldLines : List ℕ → List HeldLine → Type 0
AreHeldLines text lines = AreHeldFrom text 0 lines

-- the text of these lines, without what precedes their content
abbrev pub held_text : List ℕ → List HeldLine → List ℕ
held_text text [] = []
held_text text (line ∷ lines) = slice_range text line.start line.next ++ held_text text lines

-- the `[` at a byte offset is the first byte of the lines of a paragraph
pub record IsBracketPlace (text : List ℕ) (lines : List HeldLine) (at : ℕ) : Type 0 where
  pub held : AreHeldLines text lines
  pub line : HeldLine
  pub there : slice_get lines 0 ≡ Some line
  pub begins : line.start ≡ at
  pub bracket : slice_index text at ≡ open_bracket

-- these lines are those of a source: they begin where the others do, and so do the lines after them
abbrev pub AreLinesOfSource : List HeldLine → List SourceLine → Type 0
AreLinesOfSource [] [] = Unit
AreLinesOfSource [] (source ∷ sources) = ⊥
AreLinesOfSource (line ∷ lines) [] = ⊥
AreLinesOfSource (line ∷ lines) (source ∷ sources) =
    (line.start ≡ source.left.scanned) × ((line.next ≡ source.next) × AreLinesOfSource lines sources)
