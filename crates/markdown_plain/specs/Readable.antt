-- What the pass has to stand for so that a text, a line or the rest of one can be read: every call that places it then
-- fits. And what it stands for once that was read.
use Rattle.std.specs.Prelude.{◌≡◌, ◌&&◌, ℕ, Bool, List, [], None, false, true, length, max, nat_le}
use Rattle.markdown_builder.specs.BuilderView.{nothing_made}
use Rattle.markdown_base.specs.Forest.{Forest, nil}
use Rattle.markdown_base.specs.Source.{Source}
use Rattle.markdown_lines.specs.SourceLines.{SourceLine, is_blank_rest}
use Rattle.markdown_lines.specs.HtmlKinds.{ends_at_blank}
use Rattle.markdown_lines.specs.Positions.{IsSpaceAt}
use Rattle.markdown_lines.specs.declared.line.Line.{Line}
use Rattle.markdown_lines.specs.declared.position.Position.{Position}
use Rattle.markdown_plain.specs.declared.block_pass.Continued.{Continued}
use Rattle.markdown_plain.specs.declared.block_pass.Continued.TheVariants as continued
use Rattle.markdown_plain.specs.declared.pass.LeafKind.{LeafKind}
use Rattle.markdown_plain.specs.declared.pass.LeafKind.TheVariants as leaf
use Rattle.markdown_plain.specs.declared.containers.Reached.{Reached}
use Rattle.markdown_plain.specs.declared.pass.Pass.{Pass}
use Rattle.markdown_block_rules.specs.BlockGrowth.{Block, with_line, with_next_line}
use Rattle.markdown_plain.specs.ReachedLines.{Before, GoesOffAs, IsReachedBy, LeavesOff, blocks_before, blocks_in}
use Rattle.markdown_plain.specs.ReachedLines.{reached_of}
use Rattle.markdown_plain.specs.OpenBlocks.{innermost_is, is_table}
use Rattle.markdown_plain.specs.ReachedTables.{ReachesTable, is_next_row}
use Rattle.markdown_plain.specs.Standing.{IsSource, PlacesFor, Stands, StandsFor}
use Rattle.markdown_plain.specs.TableHeads.{IfParagraphLast, IsUntabled}
use Rattle.markdown_plain.specs.TextLines.{IsTextHere}
use Rattle.markdown_plain.specs.TableRows.{IsCounted}

-- nothing of a text is read yet
pub record HasNothing (s : Source) (pass : Pass) : Type 0 where
  pub made : pass.placing.builder ≡ nothing_made s.text
  pub syntax : pass.syntax ≡ s.syntax
  pub lines : pass.lines.items ≡ []
  pub blanks : pass.blanks.items ≡ []
  pub lists : pass.looseness.lists.items ≡ []
  pub placed : pass.placed ≡ 0
  pub added : pass.tables.added ≡ 0
  pub most : pass.tables.most ≡ max (length s.text) 1000

-- the pass stands for the blocks before the first line, which are none
pub record MayReadText (pass : Pass) : Type 0 where
  pub s : Source
  pub stands : Stands s pass [] nil None 0
  pub counted : IsCounted s pass nil

-- it stands for the blocks before a line of this text
pub record MayReadLine (text : List ℕ) (pass : Pass) (line : Line) : Type 0 where
  pub s : Source
  pub before : Before
  pub source : SourceLine
  pub same : text ≡ s.text
  pub stands : Stands s pass before.frames before.inside before.last line.start
  pub is : IsSource pass line source
  pub counted : IsCounted s pass (blocks_before before)

-- the same, and these of its open containers go on in the line
pub record MayReadOn (pass : Pass) (line : Line) (reached : Reached) : Type 0 where
  pub s : Source
  pub before : Before
  pub source : SourceLine
  pub by : IsReachedBy s pass line reached before source
  pub counted : IsCounted s pass (blocks_before before)

-- the last block does not go on in the line, what is left of which is blank or not
pub record MayReadRest (pass : Pass) (line : Line) (reached : Reached) (blank : Bool) : Type 0 where
  pub s : Source
  pub before : Before
  pub source : SourceLine
  pub by : IsReachedBy s pass line reached before source
  pub left : is_blank_rest (reached_of s before source).rest ≡ blank
  pub off : (reached_of s before source).inner ≡ [] → LeavesOff s (reached_of s before source).rest before.last

-- the line is text, from a byte offset on, inside the outermost of this number of open blocks
pub record MayReadAsText (pass : Pass) (line : Line) (start depth : ℕ) : Type 0 where
  pub s : Source
  pub before : Before
  pub source : SourceLine
  pub stands : Stands s pass before.frames before.inside before.last line.start
  pub is : IsSource pass line source
  pub here : IsTextHere s pass line start depth (blocks_in before) (reached_of s before source)
  pub untabled : IfParagraphLast s (IsUntabled s pass line.start (reached_of s before source)) before.last

-- ---- what goes on in it

-- a leaf of the builder is open that goes on so, and the line reaches it
pub record ReachesLeaf (pass : Pass) (reached : Reached) (how : LeafKind) : Type 0 where
  pub all : reached.all ≡ true
  pub some : pass.placing.builder.leaf ≡ true
  pub kind : pass.leaf ≡ how

-- the line is not blank, and has code after four columns of space
pub record BeginsCode (pass : Pass) (line : Line) (reached : Reached) (code : Position) : Type 0 where
  pub filled : nat_le line.stop reached.content ≡ false
  pub space : IsSpaceAt pass.placing.builder.text reached.position line.stop 4 (record { columns = 4; after = code })

-- this leaf block is open, and goes on in the line; where it is said to be none, the last block does not go on
abbrev pub GoesOnAs : Pass → Line → Reached → Continued → Type 0
GoesOnAs pass line reached continued.Nothing =
    (may : MayReadOn pass line reached) → GoesOffAs may.s pass line reached may.before may.source
GoesOnAs pass line reached (continued.FencedCode fence) = ReachesLeaf pass reached (leaf.Fenced fence)
GoesOnAs pass line reached (continued.Html kind) =
    ReachesLeaf pass reached (leaf.Html kind) × ((nat_le line.stop reached.content && ends_at_blank kind) ≡ false)
GoesOnAs pass line reached (continued.IndentedCode code) =
    ReachesLeaf pass reached leaf.Indented × BeginsCode pass line reached code
GoesOnAs pass line reached (continued.Metadata kind) = ReachesLeaf pass reached (leaf.Metadata kind)
GoesOnAs pass line reached continued.Table = (innermost_is is_table pass.placing.builder.blocks ≡ true)
    × ((may : MayReadOn pass line reached) → ReachesTable may.s pass line reached may.before may.source
    × (is_next_row may.s pass line reached may.before may.source ≡ true))

-- ---- what becomes of it

-- the pass stands for these blocks between two lines, and for their cells
pub record StandsCounted (s : Source) (pass : Pass) (from : ℕ) (blocks : Forest Block) : Type 0 where
  pub stands : StandsFor s pass from blocks
  pub counted : IsCounted s pass blocks

-- so it does for the blocks that the line makes
abbrev pub ReadsLine : List ℕ → Pass → Line → Pass → Type 0
ReadsLine text old line new =
    (may : MayReadLine text old line)
    → StandsCounted may.s new line.next (with_next_line may.s (blocks_before may.before) may.source)

-- the line is the delimiter row of a table, which was begun
pub record IsDelimiterRow (old : Pass) (line : Line) (reached : Reached) (new : Pass) : Type 0 where
  pub places : (may : MayReadRest old line reached false)
      → PlacesFor may.s new line.next (with_line may.s (blocks_before may.before) may.source)
  pub tables : new.tables ≡ old.tables

-- it is none, which is remembered
pub record IsNoDelimiterRow (old : Pass) (line : Line) (reached : Reached) (new : Pass) : Type 0 where
  pub same : new ≡ record old { tried = new.tried }
  pub untabled : (may : MayReadRest old line reached false)
      → IfParagraphLast may.s (IsUntabled may.s new line.start (reached_of may.s may.before may.source))
      may.before.last

-- the rest of the line was read, and no cell was added to a table
pub record ReadsRest (old : Pass) (line : Line) (reached : Reached) (blank : Bool) (new : Pass) : Type 0 where
  pub stands : (may : MayReadRest old line reached blank)
      → StandsFor may.s new line.next (with_line may.s (blocks_before may.before) may.source)
  pub tables : new.tables ≡ old.tables

-- the same of a line of text
pub record ReadsAsText (old : Pass) (line : Line) (start depth : ℕ) (new : Pass) : Type 0 where
  pub stands : (may : MayReadAsText old line start depth)
      → StandsFor may.s new line.next (with_line may.s (blocks_before may.before) may.source)
  pub tables : new.tables ≡ old.tables
