-- Blocks in the innermost open container: one that is put there whole, one that is open, and a paragraph whose lines
-- are held back.
use Rattle.std.specs.Prelude.{◌≡◌, ℕ, ◌<◌, ◌≤◌, Bool, true, false, List, [], ◌∷◌, ◌++◌, Option, Some, None, length}
use Rattle.std.specs.Prelude.{◌==◌, nat_le, not, if◌then◌else◌}
use Rattle.std.specs.Str.{IsCharBoundary}
use Rattle.markdown_base.specs.Forest.{Forest, nil, node}
use Rattle.markdown_base.specs.declared.tag.HeadingLevel.{HeadingLevel}
use Rattle.markdown_builder.specs.declared.open_block.OpenBlock.{OpenBlock}
use Rattle.markdown_builder.specs.BuilderView.{BuilderView, parts_of}
use Rattle.markdown_builder.specs.Shown.{Shown, shown_item}
use Rattle.markdown_builder.specs.TreeLevels.{followed_by}
use Rattle.markdown_base.specs.Source.{Source}
use Rattle.markdown_lines.specs.HeldLines.{IsHeldLine}
use Rattle.markdown_lines.specs.SourceLines.{SourceLine, stop_of}
use Rattle.markdown_lines.specs.declared.fence.OpeningFence.{OpeningFence}
use Rattle.markdown_lines.specs.declared.held_line.HeldLine.{HeldLine}
use Rattle.markdown_lines.specs.declared.line.Line.{Line}
use Rattle.markdown_lines.specs.declared.position.Position.{Position}
use Rattle.markdown_block_rules.specs.BlockGrowth as was
use Rattle.markdown_block_rules.specs.BlockGrowth.{Block, Kind}
use Rattle.markdown_block_rules.specs.BlockRules.{shown_blocks}
use Rattle.markdown_plain.specs.declared.pass.Pass.{Pass}
use Rattle.markdown_plain.specs.Frames.{Frame, is_item}
use Rattle.markdown_plain.specs.HeldSources.{AreInParagraph, IsParagraph, IsRest, IsTextLine}
use Rattle.markdown_plain.specs.Paragraphs.{EndsFrom, first_task, lines_end}
use Rattle.markdown_plain.specs.Settled.{around_innermost}
use Rattle.markdown_plain.specs.Settled.{IsBuilt, placed_end}

-- a leaf, or a table
abbrev pub leaf_block : Block → Forest Block
leaf_block b = node b nil nil

-- a block of this kind is no container, and defines nothing
abbrev pub is_leaf : Kind → Bool
is_leaf was.blank_line = false
is_leaf (was.paragraph_leaf lines) = false
is_leaf (was.underlined_leaf level lines) = false
is_leaf was.quote_container = false
is_leaf (was.alert_container kind) = false
is_leaf (was.list_container marker) = false
is_leaf (was.item_container indent) = false
is_leaf (was.footnote_container label) = false
is_leaf other = true

-- the rest of a line from a place on is this line of the definition, and ends where that does
pub record IsLineRest (text : List ℕ) (position : Position) (line : Line) (source : SourceLine) : Type 0 where
  pub rest : IsRest text position line source
  pub stop : line.stop ≡ stop_of source
  pub ends : line.stop ≤ line.next

-- the info string after an opening fence is between characters
pub record InfoStands (text : List ℕ) (opening : OpeningFence) : Type 0 where
  pub ordered : opening.from ≤ opening.to
  pub from : IsCharBoundary text opening.from
  pub to : IsCharBoundary text opening.to

-- a builder has made these blocks, and is where the last of them ends
pub record IsPlaced (s : Source) (view : BuilderView) (frames : List Frame) (inside : Forest Block) : Type 0 where
  pub built : IsBuilt s view frames inside
  pub at : view.at ≡ placed_end frames inside

-- A block that is no container is open in the innermost container, after these blocks: if it is closed here, it is this
-- one. It is a leaf of the builder, or a table.
pub record IsOpenIn (s : Source) (view : BuilderView) (frames : List Frame) (inside : Forest Block) (in_leaf : Bool)
    (b : Block) : Type 0 where
  pub outer : List OpenBlock
  pub block : OpenBlock
  pub levels : List (Forest Shown)
  pub below : Forest Shown
  pub around : IsBuilt s (record view { blocks = outer; leaf = false; levels = levels }) frames inside
  pub blocks : view.blocks ≡ outer ++ block ∷ []
  pub leaf : view.leaf ≡ in_leaf
  pub trees : view.levels ≡ levels ++ below ∷ []
  pub shown : node (shown_item (parts_of view) (record { start = block.start; end = view.at; body = block.body }))
      below nil
      ≡ shown_blocks s (around_innermost frames) (leaf_block b)
  pub end : view.at ≡ placed_end frames (followed_by inside (leaf_block b))

-- the kind is that of a leaf that has ended with its last line
abbrev pub has_ended : Kind → Bool
has_ended (was.fenced_leaf opening closed lines) = closed
has_ended (was.html_leaf kind closed lines) = closed
has_ended (was.metadata_leaf kind closed lines) = closed
has_ended (was.indented_leaf lines) = false
has_ended other = true

-- a leaf is the last block in the innermost open container, open there or not, by its kind
abbrev pub IsLeafIn : Source → BuilderView → List Frame → Forest Block → Block → Bool → Type 0
IsLeafIn s view frames inside b true = IsPlaced s view frames (followed_by inside (leaf_block b))
IsLeafIn s view frames inside b false = IsOpenIn s view frames inside true b

-- the block that a paragraph is once it has ended: with an underline it is a heading, unless it held definitions only
abbrev pub ended_block : Block → List SourceLine → (left : Bool) → Option (HeadingLevel × Line) → Block
ended_block b sources left None = b
ended_block b sources left (Some heading) =
    if left then record b { last = heading.1.next; kind = was.underlined_leaf heading.0 sources } else b

-- the pass holds back the lines of a paragraph that is the last block in the innermost open container
pub record HoldsParagraph (s : Source) (pass : Pass) (frames : List Frame) (inside : Forest Block) (b : Block)
    (sources : List SourceLine) : Type 0 where
  pub built : IsBuilt s pass.placing.builder frames inside
  pub some : 0 < length pass.lines.items
  pub kind : b.kind ≡ was.paragraph_leaf sources
  pub lines : IsParagraph pass.placing.builder.text pass.lines.items sources
  pub task : pass.task ≡ first_task s (around_innermost frames).marked sources
  pub from : EndsFrom (around_innermost frames).marked sources
  pub last : b.last ≡ lines_end pass.lines.items

-- the kind is that of a table
abbrev pub is_table : Kind → Bool
is_table (was.table_leaf ended head alignments rows) = true
is_table other = false

-- a block is the last in the innermost open container, and has not ended: a paragraph whose lines are held back, or an
-- open leaf block, which is a leaf of the builder or a table
abbrev pub IsUnended : Source → Pass → List Frame → Forest Block → Block → Option (List SourceLine) → Type 0
IsUnended s pass frames inside b None =
    (is_leaf b.kind ≡ true) × IsOpenIn s pass.placing.builder frames inside (not (is_table b.kind)) b
IsUnended s pass frames inside b (Some sources) = HoldsParagraph s pass frames inside b sources

-- a line with some content, which is this one of the definition, comes after these lines of a paragraph
pub record ComesAfter (text : List ℕ) (lines : List HeldLine) (line : HeldLine) (source : SourceLine) : Type 0 where
  pub is : IsTextLine text line source
  pub held : IsHeldLine text line
  pub after : lines_end lines ≤ line.start

-- a block is a paragraph that begins with a line, which is this one of the definition
pub record BeginsText (text : List ℕ) (line : HeldLine) (source : SourceLine) (b : Block) : Type 0 where
  pub is : IsTextLine text line source
  pub inside : AreInParagraph text (line ∷ [])
  pub some : 0 < line.next
  pub kind : b.kind ≡ was.paragraph_leaf (source ∷ [])
  pub last : b.last ≡ source.next

-- a block was opened in a line if its first line ends where that does, and not after it
pub record IsOpenedIn (line : Line) (b : Block) : Type 0 where
  pub same : nat_le line.start b.start ≡ (line.next == b.first)
  pub before : b.first ≤ line.next

-- this is so for each open item
abbrev pub AreItemsOpenedIn : Line → List Frame → Type 0
AreItemsOpenedIn line [] = Unit
AreItemsOpenedIn line (f ∷ frames) =
    (is_item f.block.kind ≡ true → IsOpenedIn line f.block) × AreItemsOpenedIn line frames
