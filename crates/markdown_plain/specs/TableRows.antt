-- The rows of tables, as the pass places them: one tree of the innermost level for each cell.
use Rattle.std.specs.Prelude.{◌≡◌, ℕ, ◌+◌, ◌-◌, ◌≤◌, Bool, true, false, ◌&&◌, nat_le, nat_lt, List, [], None, length}
use Rattle.std.specs.Prelude.{◌||◌, if◌then◌else◌, not, slice_range, take}
use Rattle.std.specs.Str.{IsCharBoundary}
use Rattle.markdown_base.specs.Forest.{Forest, nil, node}
use Rattle.markdown_base.specs.declared.item.ItemBody.{ItemBody}
use Rattle.markdown_base.specs.declared.item.ItemBody.TheVariants as body
use Rattle.markdown_builder.specs.BuilderView.{BuilderView}
use Rattle.markdown_builder.specs.EvenRows.{open_columns}
use Rattle.markdown_builder.specs.Shown.{Shown}
use Rattle.markdown_builder.specs.TreeLevels.{followed_by}
use Rattle.markdown_lines.specs.declared.block_start.BlockStart.{BlockStart}
use Rattle.markdown_lines.specs.declared.block_start.BlockStart.TheVariants as start
use Rattle.markdown_lines.specs.declared.held_line.HeldLine.{HeldLine}
use Rattle.markdown_lines.specs.declared.line.Line.{Line}
use Rattle.markdown_lines.specs.declared.table_row.Cell.{Cell}
use Rattle.markdown_base.specs.Source.{Source}
use Rattle.markdown_lines.specs.TableRows.{piece_length, row_cells_at}
use Rattle.markdown_block_rules.specs.BlockGrowth as was
use Rattle.markdown_block_rules.specs.BlockGrowth.{Block, Kind, added_in, is_nil}
use Rattle.markdown_block_rules.specs.BlockRules.{empty_cells, shown_cells, shown_over}
use Rattle.markdown_block_rules.specs.TableLines.{most_added, reads_tables}
use Rattle.markdown_plain.specs.Closable.{IsInText}
use Rattle.markdown_plain.specs.Fits.{MayStep}
use Rattle.markdown_plain.specs.LeafTrees.{HasMoreTexts, HasTrees}
use Rattle.markdown_plain.specs.Paragraphs.{IsPlacedTo, source_of}
use Rattle.markdown_plain.specs.TextLines.{held_line}
use Rattle.markdown_plain.specs.declared.pass.Pass.{Pass}

-- blocks with these trees were opened, filled and closed, up to a byte offset
pub record PutsTrees (old new : BuilderView) (to : ℕ) (put : Forest Shown) : Type 0 where
  pub placed : IsPlacedTo old new to
  pub texts : HasMoreTexts old new
  pub trees : HasTrees old new put

-- a cell's content lies in the cell, and where either begins and ends is between characters
pub record IsCellIn (text : List ℕ) (cell : Cell) : Type 0 where
  pub after : cell.start ≤ cell.from
  pub content : cell.from ≤ cell.to
  pub before : cell.to ≤ cell.end
  pub start : IsCharBoundary text cell.start
  pub from : IsCharBoundary text cell.from
  pub to : IsCharBoundary text cell.to
  pub end : IsCharBoundary text cell.end

-- no two backslashes in a cell's content are in no item
abbrev pub IsOnePiece : List ℕ → Cell → Type 0
IsOnePiece text cell = piece_length (slice_range text cell.from cell.to) ≡ cell.to - cell.from

-- a cell fits that begins at a byte offset: a block that is no leaf is open
pub record MayAddCell (builder : BuilderView) (at : ℕ) : Type 0 where
  pub outside : builder.leaf ≡ false
  pub some : builder.blocks ≡ [] → ⊥
  pub low : builder.at ≤ at
  pub boundary : IsCharBoundary builder.text at

-- a line fits as a row
pub record MayAddRow (builder : BuilderView) (line : HeldLine) : Type 0 where
  pub outside : builder.leaf ≡ false
  pub begins : MayStep builder line.start
  pub inside : IsInText builder.text line

-- this number of cells: the first of these, and empty ones at a byte offset in place of those that they lack
abbrev pub cells_placed : Source → List Cell → (found count at : ℕ) → Forest Shown
cells_placed s cells found count at =
    followed_by (shown_cells s (take found cells)) (empty_cells (count - found) at)

-- a line of the text as a row of a table of this many columns
abbrev pub line_row : Source → (columns : ℕ) → ItemBody → HeldLine → Forest Shown
line_row s columns row line =
    let cells = row_cells_at s.text line.start line.stop in
    shown_over line.start line.next row None
    (followed_by (shown_cells s (take columns cells)) (empty_cells (columns - length cells) line.next))

-- what a line begins is text
abbrev pub is_text_start : BlockStart → Bool
is_text_start start.Text = true
is_text_start other = false

-- the kind is that of a table that takes no rows: it is ended, or no tables are read
abbrev pub is_ended_table : Source → Kind → Bool
is_ended_table s (was.table_leaf ended head alignments rows) = ended || not (reads_tables s)
is_ended_table s other = false

-- the last of some blocks, at any depth, is such a table
abbrev pub ends_ended : Source → Forest Block → Bool
ends_ended s nil = false
ends_ended s (node b below after) =
    if is_nil after then is_ended_table s b.kind || ends_ended s below else ends_ended s after

-- the cells that were added to rows are those of these blocks, of which there are no more than may be added; and if the
-- blocks end with a table, that takes rows
pub record IsCounted (s : Source) (pass : Pass) (blocks : Forest Block) : Type 0 where
  pub added : pass.tables.added ≡ added_in blocks
  pub most : pass.tables.most ≡ most_added s.text
  pub few : added_in blocks ≤ most_added s.text
  pub unended : ends_ended s blocks ≡ false

-- A line may be a row of the open table, from byte offset `start` on, where its content ends before `stop`: it has a
-- cell, and those that it lacks may still be added.
abbrev pub may_be_row : Pass → (start stop : ℕ) → Bool
may_be_row pass start stop =
    let count = length (row_cells_at pass.placing.builder.text start stop) in
    nat_lt 0 count
    && nat_le (pass.tables.added + (open_columns pass.placing.builder - count)) pass.tables.most

-- a line is added to the open table as a row, from byte offset `start` on, with the cells that it lacks
pub record AddsRow (old new : Pass) (line : Line) (start : ℕ) : Type 0 where
  pub same : new ≡ record old { placing = new.placing; tables = new.tables }
  pub counts : new.tables.added ≡ old.tables.added + (open_columns old.placing.builder
      - length (row_cells_at old.placing.builder.text start line.stop))
  pub most : new.tables.most ≡ old.tables.most
  pub puts : PutsTrees old.placing.builder new.placing.builder line.next
      (line_row (source_of old) (open_columns old.placing.builder) body.TableRow (held_line line start))
