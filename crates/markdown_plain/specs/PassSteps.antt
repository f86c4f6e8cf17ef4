-- What steps of the pass make of it: all but the outermost of the open blocks are closed, room is made for a block, a
-- line of text is added, an item is opened.
use Rattle.std.specs.Prelude.{◌≡◌, ℕ, ◌≤◌, true, false, List, [], ◌∷◌, ◌++◌, Option, length, take}
use Rattle.std.specs.Prelude.{if◌then◌else◌}
use Rattle.markdown_base.specs.Forest.{Forest, nil}
use Rattle.markdown_base.specs.Source.{Source}
use Rattle.markdown_lines.specs.declared.block_start.ItemStart.{ItemStart}
use Rattle.markdown_lines.specs.declared.line.Line.{Line}
use Rattle.markdown_lines.specs.declared.list_marker.ListMarker.{ListMarker}
use Rattle.markdown_block_rules.specs.BlockGrowth.{Block, item_container, list_container}
use Rattle.markdown_plain.specs.declared.pass.Pass.{Pass}
use Rattle.markdown_plain.specs.Beginning.{HoldsLast}
use Rattle.markdown_plain.specs.Closable.{AreClosable, IsClosable, has_room}
use Rattle.markdown_plain.specs.Closing.{MayClose}
use Rattle.markdown_plain.specs.Containers.{closing_place}
use Rattle.markdown_plain.specs.Fitting.{closed}
use Rattle.markdown_plain.specs.Frames.{Frame, closed_in, forgotten, innermost_is, is_list, outer_within, room_depth}
use Rattle.markdown_plain.specs.OpenBlocks.{has_leaf, without_leaf}
use Rattle.markdown_plain.specs.OpenedFrames.{MayOpen, with_frame, with_item}
use Rattle.markdown_plain.specs.Paragraphs.{has_paragraph, task_at}
use Rattle.markdown_plain.specs.Settled.{BlanksKnown, IsBuilt, IsLooseAs, IsLooseBefore}
use Rattle.markdown_plain.specs.Standing.{with_last}
use Rattle.markdown_plain.specs.TextLines.{held_line}

-- ---- which blocks are open

-- Nothing but these containers is open, with these blocks in the innermost: between two lines, or, where none are in
-- it, after it was opened in a line.
pub data HasOnly (s : Source) (pass : Pass) (frames : List Frame) (inside : Forest Block) : Type 0 where
  between : MayClose s pass frames inside → BlanksKnown pass.looseness.blank_from frames inside
      → HasOnly s pass frames inside
  opened : MayOpen s pass frames → inside ≡ nil → HasOnly s pass frames inside

-- These containers are open, with these blocks in the innermost, the last of which may not have ended, and all but the
-- outermost `depth` of them are to be closed: between two lines; or after they were opened in a line, when none is.
pub data MayCloseTo (s : Source) (pass : Pass) (depth : ℕ) (frames : List Frame) (inside : Forest Block)
    (last : Option Block) : Type 0 where
  between : HoldsLast s pass frames inside last
      → BlanksKnown pass.looseness.blank_from frames (with_last inside last)
      → (pass.placing.builder.leaf ≡ false → pass.blanks.items ≡ [])
      → MayCloseTo s pass depth frames inside last
  opened : MayOpen s pass frames → with_last inside last ≡ nil → depth ≡ length frames
      → MayCloseTo s pass depth frames inside last

-- a block may begin in the innermost of these containers, after these blocks
pub record IsRoomIn (s : Source) (pass : Pass) (frames : List Frame) (inside : Forest Block) : Type 0 where
  pub built : IsBuilt s pass.placing.builder frames inside
  pub loose : IsLooseBefore pass.looseness frames inside
  pub lines : pass.lines.items ≡ []
  pub blanks : pass.blanks.items ≡ []

-- ---- steps

-- the innermost open block was closed: the blocks are the same
pub record ClosesBlock (old new : Pass) : Type 0 where
  pub closes : new.placing.builder ≡ record (closed old.placing.builder new.placing.builder.levels) {
    at = closing_place old;
  }
  pub forgets : (s : Source) (frames : List Frame) (f : Frame) (inside : Forest Block)
      → MayClose s old (f ∷ frames) inside → MayClose s new frames (forgotten f inside)
  pub same : new ≡ record old {
    placing = new.placing;
    looseness = record old.looseness {
      lists = new.looseness.lists;
      item_is_empty = new.looseness.item_is_empty;
    };
  }

-- the leaf was ended, and all open blocks were closed but the outermost `depth`: the blocks are the same
pub record ClosesDown (old new : Pass) (depth : ℕ) : Type 0 where
  pub forgets : (s : Source) (frames : List Frame) (inside : Forest Block) (last : Option Block)
      → HoldsLast s old frames inside last
      → MayClose s new (outer_within depth frames) (closed_in depth frames (with_last inside last))
  pub kept : has_leaf old.placing.builder ≡ false → old.lines.items ≡ []
      → length old.placing.builder.blocks ≤ depth → new ≡ old
  pub are : new.placing.builder.blocks ≡ take depth (without_leaf old.placing.builder)
  pub text : new.placing.builder.text ≡ old.placing.builder.text
  pub ended : new.lines.items ≡ []
  pub unheld : (old.placing.builder.leaf ≡ false → old.blanks.items ≡ []) → new.blanks.items ≡ []
  pub here : IsClosable old → AreClosable new.placing.builder old.placed
  pub same : new ≡ record old {
    placing = new.placing;
    lines = new.lines;
    blanks = new.blanks;
    looseness = record old.looseness {
      lists = new.looseness.lists;
      item_is_empty = new.looseness.item_is_empty;
    };
  }

-- room was made for a block in the outermost `depth` of the open blocks, and around a list that is the innermost of
-- them
pub record MakesRoom (old new : Pass) (depth : ℕ) : Type 0 where
  pub room : (s : Source) (frames : List Frame) (inside : Forest Block) (last : Option Block)
      → MayCloseTo s old depth frames inside last → depth ≤ length frames
      → IsRoomIn s new (outer_within (room_depth depth frames) frames)
      (closed_in (room_depth depth frames) frames (with_last inside last))
  pub kept : has_room old depth ≡ true → new ≡ record old { looseness = new.looseness }
  pub ended : new.lines.items ≡ []
  pub text : new.placing.builder.text ≡ old.placing.builder.text
  pub here : IsClosable old → AreClosable new.placing.builder old.placed
  pub same : new ≡ record old {
    placing = new.placing;
    lines = new.lines;
    blanks = new.blanks;
    looseness = new.looseness;
  }

-- a paragraph began with a line from a byte offset on, once there was room for it
pub record BeginsParagraph (old new : Pass) (line : Line) (start depth : ℕ) : Type 0 where
  pub mid : Pass
  pub room : MakesRoom old mid depth
  pub same : new ≡ record mid { lines = new.lines; task = new.task; tried = false }
  pub task : new.task ≡ task_at new line start

-- a line was added from a byte offset on: to the open paragraph; or it began one inside the outermost `depth` of the
-- open blocks
pub record AddsText (old new : Pass) (line : Line) (start depth : ℕ) : Type 0 where
  pub lines : new.lines.items ≡ (if has_paragraph old then old.lines.items else []) ++ held_line line start ∷ []
  pub text : new.placing.builder.text ≡ old.placing.builder.text
  pub tables : new.tables ≡ old.tables
  pub goes_on : has_paragraph old ≡ true → new ≡ record old { lines = new.lines }
  pub begins : has_paragraph old ≡ false → BeginsParagraph old new line start depth

-- a list is the innermost open container: one that goes on with an item, or that was opened for it
pub record HasList (s : Source) (pass : Pass) (marker : ListMarker) (list item : Block) (frames : List Frame)
    (inside : Forest Block) : Type 0 where
  pub outer : List Frame
  pub before : Forest Block
  pub are : with_item marker list item frames inside ≡ with_frame outer before item
  pub built : IsBuilt s pass.placing.builder outer before
  pub listed : innermost_is is_list outer ≡ true
  pub loose : IsLooseAs pass.looseness (with_frame outer before item) nil

-- an item was opened at a byte offset, and a list unless one goes on, inside the outermost `depth` of the open blocks
pub record OpensItem (old new : Pass) (item : ItemStart) (at depth : ℕ) : Type 0 where
  pub opens : (s : Source) (frames : List Frame) (inside : Forest Block) (last : Option Block) (list b : Block)
      → MayCloseTo s old depth frames inside last → list.start ≡ at → list.kind ≡ list_container item.marker
      → b.start ≡ at → b.kind ≡ item_container item.indent
      → MayOpen s new (with_item item.marker list b (outer_within depth frames)
      (closed_in depth frames (with_last inside last)))
  pub text : new.placing.builder.text ≡ old.placing.builder.text
  pub here : new.placing.builder.at ≡ at
  pub same : new ≡ record old {
    placing = new.placing;
    lines = new.lines;
    blanks = new.blanks;
    looseness = new.looseness;
  }
