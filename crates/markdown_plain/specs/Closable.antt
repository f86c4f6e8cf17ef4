-- What the calls that end a paragraph and close blocks need to fit: where the lines held back are, what is around them,
-- and which blocks are open.
use Rattle.std.specs.Prelude.{◌≡◌, ℕ, ◌≤◌, ◌<◌, ◌-◌, ◌==◌, ◌||◌, ◌&&◌, not, nat_le, Bool, true, false, List, [], ◌∷◌}
use Rattle.std.specs.Prelude.{Option, Some, None, IfSome, drop, length, slice_get, slice_range, if◌then◌else◌}
use Rattle.std.specs.Str.{IsCharBoundary}
use Rattle.markdown_base.specs.declared.tag.HeadingLevel.{HeadingLevel}
use Rattle.markdown_builder.specs.BuilderView.{BuilderView}
use Rattle.markdown_builder.specs.EvenRows.{is_in_row}
use Rattle.markdown_builder.specs.declared.open_block.OpenBlock.{OpenBlock}
use Rattle.markdown_lines.specs.Lines.{AllPass, is_in_blank_line}
use Rattle.markdown_lines.specs.TaskMarkers.{task_marker}
use Rattle.markdown_lines.specs.declared.braces.Braces.{Braces}
use Rattle.markdown_lines.specs.declared.held_line.HeldLine.{HeldLine}
use Rattle.markdown_lines.specs.declared.line.Line.{Line}
use Rattle.markdown_plain.specs.Containers.{is_container}
use Rattle.markdown_plain.specs.Fits.{MayAddBefore, MayStep}
use Rattle.markdown_plain.specs.Fitting.{IsAhead}
use Rattle.markdown_plain.specs.HeldSources.{AreInParagraph}
use Rattle.markdown_plain.specs.OpenBlocks.{has_leaf, innermost_is, is_list, is_quote, room_in, without_leaf}
use Rattle.markdown_plain.specs.OpenBlocks.{without_list}
use Rattle.markdown_plain.specs.Paragraphs.{has_paragraph, lines_end}
use Rattle.markdown_plain.specs.declared.paragraph.Ends.{Ends}
use Rattle.markdown_plain.specs.declared.pass.Pass.{Pass}

-- ---- lines that are held back

-- a line's content and its ending are in order, and lie between characters
pub record IsInText (text : List ℕ) (line : HeldLine) : Type 0 where
  pub content : line.start ≤ line.stop
  pub ending : line.stop ≤ line.next
  pub start : IsCharBoundary text line.start
  pub stop : IsCharBoundary text line.stop
  pub next : IsCharBoundary text line.next

-- the same of a paragraph's last line, whose content may be cut off at braces before its beginning
pub record IsLastInText (text : List ℕ) (line : HeldLine) : Type 0 where
  pub begins : line.start ≤ line.next
  pub ending : line.stop ≤ line.next
  pub start : IsCharBoundary text line.start
  pub stop : IsCharBoundary text line.stop
  pub next : IsCharBoundary text line.next

-- lines in order, from a byte offset on
abbrev pub AreInText : List ℕ → ℕ → List HeldLine → Type 0
AreInText text from [] = Unit
AreInText text from (line ∷ lines) = (from ≤ line.start) × (IsInText text line × AreInText text line.next lines)

-- there is only white space around the content of each of these lines, from a byte offset on
abbrev pub AreApart : List ℕ → ℕ → List HeldLine → Type 0
AreApart text from [] = Unit
AreApart text from (line ∷ lines) =
    AllPass is_in_blank_line text from line.start
    × (AllPass is_in_blank_line text line.stop line.next × AreApart text line.next lines)

-- the lines of a paragraph are ahead of the current byte offset; where no block is open, only white space is around
-- them
pub record AreAhead (builder : BuilderView) (lines : List HeldLine) : Type 0 where
  pub inside : AreInParagraph builder.text lines
  pub order : AreInText builder.text builder.at lines
  pub apart : builder.blocks ≡ [] → AreApart builder.text builder.at lines

-- a line begins with a task marker, if there is one
abbrev pub HasTask : List ℕ → Option Bool → HeldLine → Type 0
HasTask text None line = Unit
HasTask text (Some done) line = task_marker (slice_range text line.start line.stop) ≡ Some done

-- the first of some lines does
abbrev pub HaveTask : List ℕ → Option Bool → List HeldLine → Type 0
HaveTask text task [] = Unit
HaveTask text task (line ∷ lines) = HasTask text task line

-- braces open in a line, and between characters, if there are any
abbrev pub HasBraces : List ℕ → Option Braces → HeldLine → Type 0
HasBraces text None line = Unit
HasBraces text (Some braces) line = (braces.opening ≤ line.stop) × IsCharBoundary text braces.opening

-- they do in the last of some lines
abbrev pub HaveBraces : List ℕ → Option Braces → List HeldLine → Type 0
HaveBraces text braces lines = (line : HeldLine) → slice_get lines (length lines - 1) ≡ Some line
    → HasBraces text braces line

-- the line of an underline ends after the lines of its heading, and between characters
abbrev pub EndsHeading : List ℕ → List HeldLine → Option (HeadingLevel × Line) → Type 0
EndsHeading text lines heading =
    IfSome heading (λ h. (lines_end lines ≤ h.1.next) × IsCharBoundary text h.1.next)

-- ---- calls in an open leaf

-- inline items fit
pub record IsLeafOpen (builder : BuilderView) : Type 0 where
  pub leaf : builder.leaf ≡ true
  pub some : builder.blocks ≡ [] → ⊥

-- in the open leaf there is room for the lines from a number on, with what is at their ends
pub record HasRoomFor (builder : BuilderView) (lines : List HeldLine) (from : ℕ) (ends : Ends) : Type 0 where
  pub inside : IsLeafOpen builder
  pub order : AreInText builder.text builder.at (drop from lines)
  pub task : HaveTask builder.text ends.task (drop from lines)
  pub braces : HaveBraces builder.text ends.braces lines

-- the lines from a number on can be placed as a paragraph, or as a heading
pub record IsPlaceable (pass : Pass) (from : ℕ) (heading : Option (HeadingLevel × Line)) : Type 0 where
  pub some : from < length pass.lines.items
  pub outside : pass.placing.builder.leaf ≡ false
  pub ahead : AreAhead pass.placing.builder (drop from pass.lines.items)
  pub task : HaveTask pass.placing.builder.text (if from == 0 then pass.task else None) (drop from pass.lines.items)
  pub heading_ends : EndsHeading pass.placing.builder.text pass.lines.items heading

-- ---- open blocks

-- all of these blocks are containers
abbrev pub AreContainers : List OpenBlock → Type 0
AreContainers [] = Unit
AreContainers (block ∷ blocks) = (is_container block.body ≡ true) × AreContainers blocks

-- one of these blocks is a block quote
abbrev pub has_quote : List OpenBlock → Bool
has_quote [] = false
has_quote (block ∷ blocks) = is_quote block.body || has_quote blocks

-- The open blocks are containers, which may be closed: the current byte offset is not after that at which the block
-- quotes among them end, and there is only white space in between where there is none.
pub record AreClosable (builder : BuilderView) (placed : ℕ) : Type 0 where
  pub outside : builder.leaf ≡ false
  pub containers : AreContainers builder.blocks
  pub low : builder.at ≤ placed
  pub boundary : IsCharBoundary builder.text placed
  pub white : has_quote builder.blocks ≡ false → AllPass is_in_blank_line builder.text builder.at placed

-- there is only white space from the current byte offset up to another
abbrev pub IsWhiteBefore : BuilderView → ℕ → Type 0
IsWhiteBefore builder to = AllPass is_in_blank_line builder.text builder.at to

-- a list is open, in which an item may be opened at a byte offset
pub record IsInList (builder : BuilderView) (to : ℕ) : Type 0 where
  pub outside : builder.leaf ≡ false
  pub some : builder.blocks ≡ [] → ⊥
  pub low : builder.at ≤ to

-- a list may be opened at a byte offset, or go on there
pub record MayOpenList (pass : Pass) (at : ℕ) : Type 0 where
  pub outside : pass.placing.builder.leaf ≡ false
  pub ahead : IsAhead pass.placing.builder at
  pub white : without_list pass.placing.builder.blocks ≡ [] → IsWhiteBefore pass.placing.builder at
  pub closable : innermost_is is_list pass.placing.builder.blocks ≡ true
      → AreClosable pass.placing.builder pass.placed

-- the byte offset at which the open leaf ends, or the paragraph whose lines are held back
abbrev pub leaf_end : Pass → ℕ
leaf_end pass = if has_paragraph pass then lines_end pass.lines.items else pass.placing.builder.at

-- The open leaf may be ended, or the paragraph whose lines are held back, and then the open containers may be closed.
pub record IsClosable (pass : Pass) : Type 0 where
  pub some : pass.placing.builder.leaf ≡ true → pass.placing.builder.blocks ≡ [] → ⊥
  pub other : is_in_row pass.placing.builder.blocks ≡ false
  pub held : pass.placing.builder.leaf ≡ false → AreAhead pass.placing.builder pass.lines.items
  pub task : HaveTask pass.placing.builder.text pass.task pass.lines.items
  pub containers : AreContainers (without_leaf pass.placing.builder)
  pub alone : has_paragraph pass ≡ true → has_leaf pass.placing.builder ≡ false
  pub low : leaf_end pass ≤ pass.placed
  pub boundary : IsCharBoundary pass.placing.builder.text pass.placed
  pub white : has_quote (without_leaf pass.placing.builder) ≡ false
      → AllPass is_in_blank_line pass.placing.builder.text (leaf_end pass) pass.placed

-- no leaf block is open, and no lines are held back
abbrev pub has_ended : Pass → Bool
has_ended pass = not (has_leaf pass.placing.builder) && (length pass.lines.items == 0)

-- nothing is open but the outermost blocks, up to a number of them
abbrev pub is_down : Pass → ℕ → Bool
is_down pass depth = has_ended pass && nat_le (length pass.placing.builder.blocks) depth

-- and the innermost of them is no list, so that any block may begin there
abbrev pub has_room : Pass → ℕ → Bool
has_room pass depth = is_down pass depth && not (innermost_is is_list pass.placing.builder.blocks)

-- what has not ended may be ended
abbrev pub MayEndLeaf : Pass → Type 0
MayEndLeaf pass = has_ended pass ≡ false → IsClosable pass

-- the open blocks may be closed except the outermost ones, up to a number of them
abbrev pub MayCloseDown : Pass → ℕ → Type 0
MayCloseDown pass depth = is_down pass depth ≡ false → IsClosable pass

-- room may be made inside these
abbrev pub MayMakeRoom : Pass → ℕ → Type 0
MayMakeRoom pass depth = has_room pass depth ≡ false → IsClosable pass

-- an item may be opened at a byte offset once the blocks around it are closed
pub record MayOpenItemAfter (pass : Pass) (depth at : ℕ) : Type 0 where
  pub closable : IsClosable pass
  pub low : pass.placed ≤ at
  pub boundary : IsCharBoundary pass.placing.builder.text at
  pub white : room_in depth (without_leaf pass.placing.builder) ≡ []
      → AllPass is_in_blank_line pass.placing.builder.text pass.placed at

-- an item may be opened at a byte offset inside the outermost blocks, up to a number of them: once the others are
-- closed, or where no others are open
pub data MayOpenItem (pass : Pass) (depth at : ℕ) : Type 0 where
  by_closing : MayOpenItemAfter pass depth at → MayOpenItem pass depth at
  in_room : has_room pass depth ≡ true → MayStep pass.placing.builder at → MayOpenItem pass depth at

-- Between two lines: all up to a byte offset was read, where a line begins, and every call fits that the pass may
-- make of the lines that it holds back.
pub record IsReady (pass : Pass) (from : ℕ) : Type 0 where
  pub closable : IsClosable pass
  pub low : pass.placed ≤ from
  pub boundary : IsCharBoundary pass.placing.builder.text from
  pub white : AllPass is_in_blank_line pass.placing.builder.text pass.placed from
  pub blanks : pass.placing.builder.leaf ≡ true → MayAddBefore pass.placing.builder pass.blanks.items from

-- the same once it is recorded that a line which is not blank was read up to a byte offset
abbrev pub IsReadyAfter : Pass → ℕ → Type 0
IsReadyAfter pass to = IsReady (record pass { placed = to }) to
