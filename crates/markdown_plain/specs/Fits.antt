-- Where the calls of functions fit: what holds of the builder before them.
use Rattle.std.specs.Prelude.{◌≡◌, ℕ, ◌≤◌, true, false, List, [], ◌∷◌, Some}
use Rattle.std.specs.Str.{IsCharBoundary}
use Rattle.markdown_builder.specs.BuilderView.{BuilderView, innermost_block}
use Rattle.markdown_builder.specs.EvenRows.{is_in_row}
use Rattle.markdown_builder.specs.declared.open_block.OpenBlock.{OpenBlock}
use Rattle.markdown_lines.specs.Lines.{IsNextContent}
use Rattle.markdown_lines.specs.declared.atx_heading.AtxHeading.{AtxHeading}
use Rattle.markdown_lines.specs.declared.held_line.HeldLine.{HeldLine}
use Rattle.markdown_lines.specs.declared.line.Line.{Line}
use Rattle.markdown_lines.specs.declared.position.Position.{Position}
use Rattle.markdown_plain.specs.CodeLines.{after_line}
use Rattle.markdown_plain.specs.Fitting.{IsAhead, IsWhiteOutside}

-- a step to a byte offset fits
pub record MayStep (builder : BuilderView) (to : ℕ) : Type 0 where
  pub ahead : IsAhead builder to
  pub white : IsWhiteOutside builder to

-- a leaf is open, which is no row: items fit, and so does closing it
pub record IsInLeaf (builder : BuilderView) : Type 0 where
  pub leaf : builder.leaf ≡ true
  pub some : builder.blocks ≡ [] → ⊥
  pub plain : is_in_row builder.blocks ≡ false

-- a line from one byte offset up to another fits into the open leaf
pub record MayAddLine (builder : BuilderView) (from to : ℕ) : Type 0 where
  pub inside : IsInLeaf builder
  pub ahead : IsAhead builder from
  pub next : IsCharBoundary builder.text to

-- a line from one byte offset up to another, not before it, fits into the open leaf, or ends it
pub record MayEndWith (builder : BuilderView) (from to : ℕ) : Type 0 where
  pub line : MayAddLine builder from to
  pub ordered : from ≤ to

-- lines are between characters and in order, from a byte offset on
abbrev pub AreLinesFrom : List ℕ → ℕ → List HeldLine → Type 0
AreLinesFrom text from [] = Unit
AreLinesFrom text from (line ∷ lines) =
    (from ≤ line.start) × IsCharBoundary text line.start × IsCharBoundary text line.next
    × AreLinesFrom text (after_line line.start line.next) lines

-- where the last of such lines ends
abbrev pub after_lines : ℕ → List HeldLine → ℕ
after_lines from [] = from
after_lines from (line ∷ lines) = after_lines (after_line line.start line.next) lines

-- lines fit into the open leaf
pub record MayAddLines (builder : BuilderView) (lines : List HeldLine) : Type 0 where
  pub inside : IsInLeaf builder
  pub are : AreLinesFrom builder.text builder.at lines

-- lines fit into the open leaf, and end before a byte offset
pub record MayAddBefore (builder : BuilderView) (lines : List HeldLine) (to : ℕ) : Type 0 where
  pub may : MayAddLines builder lines
  pub low : after_lines builder.at lines ≤ to

-- a line from one byte offset up to another fits into the open leaf after these lines
pub record MayAddAfter (builder : BuilderView) (lines : List HeldLine) (from to : ℕ) : Type 0 where
  pub before : MayAddBefore builder lines from
  pub boundary : IsCharBoundary builder.text from
  pub next : IsCharBoundary builder.text to

-- a leaf fits that begins at a byte offset, with a line up to another
pub record MayOpenLeaf (builder : BuilderView) (from to : ℕ) : Type 0 where
  pub outside : builder.leaf ≡ false
  pub begins : MayStep builder from
  pub ordered : from ≤ to
  pub next : IsCharBoundary builder.text to

-- an ATX heading fits that begins at the current byte offset, in a line
pub record MayAddHeading (builder : BuilderView) (line : Line) (heading : AtxHeading) : Type 0 where
  pub outside : builder.leaf ≡ false
  pub from : IsAhead builder heading.from
  pub ordered : heading.from ≤ heading.to
  pub to : IsCharBoundary builder.text heading.to
  pub within : heading.to ≤ line.next
  pub next : IsCharBoundary builder.text line.next

-- there is content from a byte offset on, up to another
pub record HasContentFrom (text : List ℕ) (from to : ℕ) : Type 0 where
  pub content : ℕ
  pub next : IsNextContent text from (Some content)
  pub within : content ≤ to

-- the innermost open block starts between characters, and has content before the current byte offset
pub record HasContent (builder : BuilderView) : Type 0 where
  pub block : OpenBlock
  pub innermost : innermost_block builder.blocks ≡ Some block
  pub boundary : IsCharBoundary builder.text block.start
  pub content : HasContentFrom builder.text block.start builder.at

-- an HTML block fits that begins with the rest of a line from a place on
abbrev pub MayOpenHtml : BuilderView → Line → Position → Type 0
MayOpenHtml builder line position =
    MayOpenLeaf builder position.at line.next × HasContentFrom builder.text position.at line.next
