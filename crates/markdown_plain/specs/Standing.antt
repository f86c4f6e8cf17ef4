-- What the pass stands for between two lines: the blocks of the lines so far. And what it stands for once a line that
-- is not blank is placed, before that is recorded.
use Rattle.std.specs.Prelude.{◌≡◌, ℕ, ◌<◌, ◌≤◌, Bool, true, false, List, [], ◌∷◌, ◌++◌, Option, Some, None}
use Rattle.std.specs.Str.{IsCharBoundary, IsUtf8}
use Rattle.markdown_base.specs.Forest.{Forest}
use Rattle.markdown_builder.specs.TreeLevels.{followed_by}
use Rattle.markdown_base.specs.Source.{Source}
use Rattle.markdown_lines.specs.Lines.{IsLineFrom}
use Rattle.markdown_lines.specs.SourceLines.{SourceLine, stop_of}
use Rattle.markdown_lines.specs.declared.held_line.HeldLine.{HeldLine}
use Rattle.markdown_lines.specs.declared.line.Line.{Line}
use Rattle.markdown_block_rules.specs.BlockGrowth as was
use Rattle.markdown_block_rules.specs.BlockGrowth.{Block, Kind}
use Rattle.markdown_block_rules.specs.BlockRules.{code_lines, ends_blank}
use Rattle.markdown_plain.specs.declared.pass.LeafKind.{LeafKind}
use Rattle.markdown_plain.specs.declared.pass.LeafKind.TheVariants as leaf
use Rattle.markdown_plain.specs.declared.pass.Pass.{Pass}
use Rattle.markdown_plain.specs.Closing.{AreItemsInLists, MayClose, MayEnd}
use Rattle.markdown_plain.specs.Closable.{IsReady, IsReadyAfter}
use Rattle.markdown_plain.specs.Containers.{whole_line}
use Rattle.markdown_plain.specs.Frames.{AreOver, Frame, is_item, rebuilt}
use Rattle.markdown_plain.specs.HeldSources.{AreHeld}
use Rattle.markdown_plain.specs.OpenLeaves.{IsPlaced, IsUnended, leaf_block}
use Rattle.markdown_plain.specs.Paragraphs.{lines_end, source_of}
use Rattle.markdown_plain.specs.Settled.{BlanksKnown, IsLooseAs, QuotesEnd}
use Rattle.markdown_plain.specs.TableHeads.{IfParagraphLast, Remembers}

-- blocks, and then one that has not ended, if there is one
abbrev pub with_last : Forest Block → Option Block → Forest Block
with_last inside None = inside
with_last inside (Some b) = followed_by inside (leaf_block b)

-- how the open leaf goes on, as the pass remembers it, is how a block of a kind does
abbrev pub IsLeafKind : LeafKind → Kind → Type 0
IsLeafKind leaf.Indented (was.indented_leaf lines) = Unit
IsLeafKind (leaf.Fenced fence) (was.fenced_leaf opening false lines) = opening.fence ≡ fence
IsLeafKind (leaf.Html kind) (was.html_leaf same false lines) = same ≡ kind
IsLeafKind (leaf.Metadata kind) (was.metadata_leaf same false lines) = same ≡ kind
IsLeafKind other kind = ⊥

-- how an open leaf block goes on: as that leaf, or as a table
abbrev pub GoesOnBy : LeafKind → Kind → Type 0
GoesOnBy how (was.table_leaf ended head alignments rows) = Unit
GoesOnBy how other = IsLeafKind how other

-- the blank lines that are held back are those at the end of the lines of indented code
abbrev pub HoldsBlanks : List HeldLine → Kind → Type 0
HoldsBlanks held (was.indented_leaf lines) =
    (blank : List SourceLine) × (lines ≡ code_lines lines ++ blank) × AreHeld held blank
HoldsBlanks held other = held ≡ []

-- the pass remembers how the last block goes on: a paragraph's lines are held back, or a leaf block is open and none
-- are
abbrev pub KnowsLast : Pass → Block → Option (List SourceLine) → Type 0
KnowsLast pass b (Some sources) = Unit
KnowsLast pass b None =
    GoesOnBy pass.leaf b.kind × HoldsBlanks pass.blanks.items b.kind × (pass.lines.items ≡ [])

-- which block has not ended
abbrev pub HasLast : Source → Pass → List Frame → Forest Block → Option Block → Type 0
HasLast s pass frames inside None =
    MayClose s pass frames inside × (pass.lines.items ≡ []) × AreOver s inside
HasLast s pass frames inside (Some b) =
    (held : Option (List SourceLine)) × MayEnd s pass frames inside b held × KnowsLast pass b held

-- a block was opened in a line before a byte offset
pub record IsOpenedBefore (from : ℕ) (b : Block) : Type 0 where
  pub start : b.start < from
  pub first : b.first ≤ from

-- this is so for each open item
abbrev pub AreOpenedBefore : ℕ → List Frame → Type 0
AreOpenedBefore from [] = Unit
AreOpenedBefore from (f ∷ frames) =
    (is_item f.block.kind ≡ true → IsOpenedBefore from f.block) × AreOpenedBefore from frames

-- the kind is that of metadata
abbrev pub is_metadata : Kind → Bool
is_metadata (was.metadata_leaf kind closed lines) = true
is_metadata other = false

-- metadata is open in no container
abbrev pub MetadataAlone : Option Block → List Frame → Type 0
MetadataAlone None frames = Unit
MetadataAlone (Some b) frames = is_metadata b.kind ≡ true → frames ≡ []

-- Between two lines, of which the second begins at a byte offset: these containers are open, with these blocks in the
-- innermost, the last of which has not ended, or all of them have.
pub record Stands (s : Source) (pass : Pass) (frames : List Frame) (inside : Forest Block) (last : Option Block)
    (from : ℕ) : Type 0 where
  pub source : source_of pass ≡ s
  pub unended : HasLast s pass frames inside last
  pub loose : IsLooseAs pass.looseness frames (with_last inside last)
  pub blanks : BlanksKnown pass.looseness.blank_from frames (with_last inside last)
  pub before : lines_end pass.lines.items ≤ from
  pub unheld : pass.placing.builder.leaf ≡ false → pass.blanks.items ≡ []
  pub earlier : AreOpenedBefore from frames
  pub alone : MetadataAlone last frames
  pub remembers : IfParagraphLast s (Remembers s pass from) last
  pub ready : IsReady pass from

-- the pass stands for these blocks between two lines
pub record StandsFor (s : Source) (pass : Pass) (from : ℕ) (blocks : Forest Block) : Type 0 where
  pub frames : List Frame
  pub inside : Forest Block
  pub last : Option Block
  pub stands : Stands s pass frames inside last from
  pub whole : blocks ≡ rebuilt frames (with_last inside last)

-- a line of the text, as the pass reads it, is this one of the definition
pub record IsSource (pass : Pass) (line : Line) (source : SourceLine) : Type 0 where
  pub left : whole_line pass.placing.builder.text line ≡ source.left
  pub stop : line.stop ≡ stop_of source
  pub next : line.next ≡ source.next
  pub outermost : source.outermost ≡ true
  pub indent : source.indent ≡ None
  pub from : IsLineFrom pass.placing.builder.text line.start line
  pub boundary : IsCharBoundary pass.placing.builder.text line.start
  pub utf8 : IsUtf8 pass.placing.builder.text

-- which block has not ended, once a line is placed
abbrev pub PlacesLast : Source → Pass → List Frame → Forest Block → Option Block → Type 0
PlacesLast s pass frames inside None =
    IsPlaced s pass.placing.builder frames inside × (pass.lines.items ≡ []) × AreOver s inside
PlacesLast s pass frames inside (Some b) =
    (held : Option (List SourceLine)) × IsUnended s pass frames inside b held × KnowsLast pass b held

-- A line that is not blank, and ends at a byte offset, was placed: these containers are open, with these blocks in the
-- innermost, the last of which has not ended, or all of them have.
pub record Places (s : Source) (pass : Pass) (frames : List Frame) (inside : Forest Block) (last : Option Block)
    (to : ℕ) : Type 0 where
  pub source : source_of pass ≡ s
  pub unended : PlacesLast s pass frames inside last
  pub quotes : QuotesEnd to frames
  pub items : AreItemsInLists false (rebuilt frames (with_last inside last))
  pub loose : IsLooseAs pass.looseness frames (with_last inside last)
  pub filled : ends_blank false (with_last inside last) ≡ false
  pub before : lines_end pass.lines.items ≤ to
  pub unheld : pass.placing.builder.leaf ≡ false → pass.blanks.items ≡ []
  pub earlier : AreOpenedBefore to frames
  pub alone : MetadataAlone last frames
  pub remembers : IfParagraphLast s (Remembers s pass to) last
  pub ready : IsReadyAfter pass to

-- the pass has placed a line that makes these blocks
pub record PlacesFor (s : Source) (pass : Pass) (to : ℕ) (blocks : Forest Block) : Type 0 where
  pub frames : List Frame
  pub inside : Forest Block
  pub last : Option Block
  pub places : Places s pass frames inside last to
  pub whole : blocks ≡ rebuilt frames (with_last inside last)
