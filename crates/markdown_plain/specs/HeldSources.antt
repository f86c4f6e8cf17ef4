-- The lines that the pass holds back, and the rests of lines that it adds, as lines of the definition of blocks.
use Rattle.std.specs.Prelude.{◌≡◌, ℕ, ◌≤◌, Bool, true, false, ◌==◌, List, [], ◌∷◌, slice_range}
use Rattle.markdown_lines.specs.declared.held_line.HeldLine.{HeldLine}
use Rattle.markdown_lines.specs.declared.line.Line.{Line}
use Rattle.markdown_lines.specs.declared.position.Position.{Position}
use Rattle.markdown_lines.specs.HeldLines.{AreHeldFrom}
use Rattle.markdown_lines.specs.Positions.{left_from}
use Rattle.markdown_lines.specs.SourceLines.{SourceLine}

-- a line is this one of the definition, whose first tab owes at most three columns
pub record IsHeld (line : HeldLine) (source : SourceLine) : Type 0 where
  pub start : line.start ≡ source.left.scanned
  pub owed : line.owed ≡ source.left.owed
  pub few : line.owed ≤ 3
  pub next : line.next ≡ source.next

-- lines are these of the definition
abbrev pub AreHeld : List HeldLine → List SourceLine → Type 0
AreHeld [] [] = Unit
AreHeld [] (source ∷ sources) = ⊥
AreHeld (line ∷ lines) [] = ⊥
AreHeld (line ∷ lines) (source ∷ sources) = IsHeld line source × AreHeld lines sources

-- the rest of a line from a place on is this line of the definition
pub record IsRest (text : List ℕ) (position : Position) (line : Line) (source : SourceLine) : Type 0 where
  pub left : left_from text position line.stop ≡ source.left
  pub few : position.owed ≤ 3
  pub next : line.next ≡ source.next

-- a line of a paragraph is this one of the definition, with its bytes
pub record IsTextLine (text : List ℕ) (line : HeldLine) (source : SourceLine) : Type 0 where
  pub start : line.start ≡ source.left.scanned
  pub bytes : slice_range text line.start line.stop ≡ source.left.bytes
  pub next : line.next ≡ source.next

abbrev pub AreTextLines : List ℕ → List HeldLine → List SourceLine → Type 0
AreTextLines text [] [] = Unit
AreTextLines text [] (source ∷ sources) = ⊥
AreTextLines text (line ∷ lines) [] = ⊥
AreTextLines text (line ∷ lines) (source ∷ sources) = IsTextLine text line source × AreTextLines text lines sources

-- lines in order, each with its content; but of the first one, nothing may be left
abbrev pub AreInOrder : (empty : Bool) → List ℕ → HeldLine → List HeldLine → Type 0
AreInOrder true text line lines = AreHeldFrom text line.next lines
AreInOrder false text line lines = AreHeldFrom text 0 (line ∷ lines)

-- lines that a paragraph may consist of
abbrev pub AreInParagraph : List ℕ → List HeldLine → Type 0
AreInParagraph text [] = Unit
AreInParagraph text (line ∷ lines) = AreInOrder (line.start == line.stop) text line lines

-- the lines of the open paragraph are these of the definition
pub record IsParagraph (text : List ℕ) (lines : List HeldLine) (sources : List SourceLine) : Type 0 where
  pub inside : AreInParagraph text lines
  pub are : AreTextLines text lines sources
