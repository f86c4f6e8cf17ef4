-- Tables contain a head and rows, which have as many cells as their table has columns; cells contain inline items
-- alone, and few of them are added to a text.
use Rattle.std.specs.Prelude.{◌≡◌, ◌≤◌, ℕ, ◌-◌, true, ◌∷◌, length, max, ⊤, IsTrue}
use Rattle.std.specs.List.{sum_by}
use Rattle.markdown_base.specs.Forest.{Each, Forest, Throughout, nil, node, preorder, roots}
use Rattle.markdown_base.specs.Item.{is_inline}
use Rattle.markdown_base.specs.declared.item.ItemBody.TheVariants as body
use Rattle.markdown_base.specs.Source.{Source}
use Rattle.markdown_lines.specs.SourceLines.{SourceLine}
use Rattle.markdown_block_rules.specs.BlockGrowth as was
use Rattle.markdown_block_rules.specs.BlockGrowth.{Block, Kind, blocks_of}
use Rattle.markdown_block_rules.specs.BlockRules.{block_tree}
use Rattle.markdown_builder.specs.EvenRows.{is_table}
use Rattle.markdown_builder.specs.Shown.{Shown}
use Rattle.markdown_block_rules.specs.TableLines.{cells_of}

-- each item of a forest directly contains this many
abbrev pub EachContains : {A : Type 0} → ℕ → Forest A → Type 0
EachContains count nil = ⊤
EachContains count (node a below after) = (length (roots below) ≡ count) × EachContains count after

-- these siblings are cells, and hold inline items alone, at any depth
abbrev pub AreCells : Forest Shown → Type 0
AreCells nil = ⊤
AreCells (node cell below after) =
    (cell.item.body ≡ body.TableCell) × Each (λ a. IsTrue (is_inline a.item.body)) below × AreCells after

-- these siblings are rows of cells
abbrev pub AreRows : Forest Shown → Type 0
AreRows nil = ⊤
AreRows (node row cells after) = (row.item.body ≡ body.TableRow) × AreCells cells × AreRows after

-- the first of these siblings is a head of cells, and the others are rows of cells
abbrev pub AreHeadAndRows : Forest Shown → Type 0
AreHeadAndRows nil = ⊥
AreHeadAndRows (node head cells rows) = (head.item.body ≡ body.TableHead) × AreCells cells × AreRows rows

-- An item, with the items below it. If it is a table, these are its head and its rows, and each of them has as many
-- cells as the table has alignments.
pub record KeepsRowsEven (a : Shown) (below : Forest Shown) : Type 0 where
  pub rows : is_table a.item.body ≡ true → AreHeadAndRows below
  pub even : is_table a.item.body ≡ true → EachContains (length a.alignments) below

-- that holds for each item of a text
abbrev pub RowsAreEven : Type 0
RowsAreEven = (s : Source) → Throughout (λ a below after. KeepsRowsEven a below) (block_tree s)

-- how many cells more a table of this many columns has than a row is written with
abbrev pub cells_lacking : (columns : ℕ) → SourceLine → ℕ
cells_lacking columns row = columns - length (cells_of row)

-- how many cells the rows of a block lack, its head included
abbrev pub lacking_in_rows : Kind → ℕ
lacking_in_rows (was.table_leaf ended head alignments rows) =
    sum_by (cells_lacking (length alignments)) (head ∷ rows)
lacking_in_rows other = 0

-- how many cells the rows of all tables among some blocks lack
abbrev pub lacking_in : Forest Block → ℕ
lacking_in blocks = sum_by (λ b. lacking_in_rows b.kind) (preorder blocks)

-- the cells that are added to the rows of a text are no more than its bytes, or than 1,000 where it has fewer bytes
abbrev pub FewCellsAreAdded : Type 0
FewCellsAreAdded = (s : Source) → lacking_in (blocks_of s) ≤ max (length s.text) 1000
