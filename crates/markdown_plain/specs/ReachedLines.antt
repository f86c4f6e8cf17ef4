-- A line whose containers that go on were found: what the pass stands for before it, and whether an open leaf goes on
-- in the rest of it.
use Rattle.std.specs.Prelude.{◌≡◌, Bool, true, false, ◌&&◌, List, [], Option, Some, None}
use Rattle.markdown_base.specs.Forest.{Forest}
use Rattle.markdown_base.specs.Source.{Source}
use Rattle.markdown_lines.specs.SourceLines.{SourceLine, is_blank_rest}
use Rattle.markdown_lines.specs.declared.line.Line.{Line}
use Rattle.markdown_block_rules.specs.BlockGrowth as was
use Rattle.markdown_block_rules.specs.BlockGrowth.{Block, Kind, added_in, leaf_with, with_line, with_next_line}
use Rattle.markdown_plain.specs.declared.containers.Reached.{Reached}
use Rattle.markdown_plain.specs.declared.pass.Pass.{Pass}
use Rattle.markdown_plain.specs.Frames as kept
use Rattle.markdown_plain.specs.Frames.{Frame, rebuilt}
use Rattle.markdown_plain.specs.OpenLeaves.{is_leaf}
use Rattle.markdown_plain.specs.ReachedFrames.{IsReached}
use Rattle.markdown_plain.specs.Standing.{IsSource, Stands, with_last}
use Rattle.markdown_plain.specs.TableRows.{ends_ended}

-- the kind is that of indented code
abbrev pub is_indented : Kind → Bool
is_indented (was.indented_leaf lines) = true
is_indented other = false

-- The last block does not go on in the rest of a line, if it is an open leaf; of indented code that is known where the
-- rest is not blank.
abbrev pub LeavesOff : Source → SourceLine → Option Block → Type 0
LeavesOff s rest None = Unit
LeavesOff s rest (Some b) =
    is_leaf b.kind ≡ true → (is_blank_rest rest && is_indented b.kind) ≡ false → leaf_with s rest b.kind ≡ None

-- what the pass stands for before a line
pub record Before : Type 0 where
  pub frames : List Frame
  pub inside : Forest Block
  pub last : Option Block

-- the blocks in the innermost open container
abbrev pub blocks_in : Before → Forest Block
blocks_in before = with_last before.inside before.last

-- all blocks
abbrev pub blocks_before : Before → Forest Block
blocks_before before = rebuilt before.frames (blocks_in before)

-- the open containers that go on in a line
abbrev pub reached_of : Source → Before → SourceLine → kept.Reached
reached_of s before source = kept.reached s before.frames (blocks_in before) source

-- the pass stands for blocks before a line, and these containers go on in it
pub record IsReachedBy (s : Source) (pass : Pass) (line : Line) (reached : Reached) (before : Before)
    (source : SourceLine) : Type 0 where
  pub stands : Stands s pass before.frames before.inside before.last line.start
  pub is : IsSource pass line source
  pub reaches : IsReached pass.placing.builder.text line source reached (reached_of s before source)

-- Before a line in which the last block does not go on, if that is a leaf block, the pass stands for blocks from which
-- the line makes the next ones. They are those that were made so far; but where the line is no row of the open table
-- only since too many cells would be added, that is ended. No cell is added in any case, and no table that takes no
-- rows is at the end.
pub record GoesOffAs (s : Source) (pass : Pass) (line : Line) (reached : Reached) (made : Before)
    (source : SourceLine) : Type 0 where
  pub before : Before
  pub by : IsReachedBy s pass line reached before source
  pub off : (reached_of s before source).inner ≡ [] → LeavesOff s (reached_of s before source).rest before.last
  pub same : with_next_line s (blocks_before made) source ≡ with_line s (blocks_before before) source
  pub added : added_in (with_line s (blocks_before before) source) ≡ added_in (blocks_before made)
  pub unended : ends_ended s (with_line s (blocks_before before) source) ≡ false
