-- Rows of tables contain as many cells as their table has alignments.
use Rattle.std.specs.Prelude.{◌≡◌, ℕ, Bool, true, false, List, [], ◌∷◌, ◌++◌, length, ⊤}
use Rattle.std.specs.Option.{option_map_or}
use Rattle.markdown_base.specs.declared.item.ItemBody.{ItemBody}
use Rattle.markdown_base.specs.declared.item.ItemBody.TheVariants as body
use Rattle.markdown_base.specs.Forest.{Forest, Throughout, nil, node, roots}
use Rattle.markdown_builder.specs.declared.open_block.OpenBlock.{OpenBlock}
use Rattle.markdown_builder.specs.BuilderView.{BuilderView, innermost_block}
use Rattle.markdown_builder.specs.Shown.{Shown, alignments_shown}

-- the body is that of a table
abbrev pub is_table : ItemBody → Bool
is_table (body.Table alignments) = true
is_table other = false

-- the body is that of a row of a table, or of its head
abbrev pub is_table_row : ItemBody → Bool
is_table_row body.TableHead = true
is_table_row body.TableRow = true
is_table_row other = false

-- each row among these siblings directly contains this many items
abbrev pub EachRowContains : ℕ → Forest Shown → Type 0
EachRowContains count nil = ⊤
EachRowContains count (node a below after) =
    (is_table_row a.item.body ≡ true → length (roots below) ≡ count) × EachRowContains count after

-- where an item is a table, the rows directly below it contain as many items as it has alignments
abbrev pub KeepsRows : Shown → Forest Shown → Type 0
KeepsRows a below = is_table a.item.body ≡ true → EachRowContains (length a.alignments) below

-- that holds for each item of some trees
abbrev pub HasEvenRows : Forest Shown → Type 0
HasEvenRows trees = Throughout (λ a below after. KeepsRows a below) trees

-- the innermost open block is a row
abbrev pub is_in_row : List OpenBlock → Bool
is_in_row blocks = option_map_or (λ block. is_table_row block.body) (innermost_block blocks) false

-- how many alignments the innermost open block has, if it is a table
abbrev pub open_columns : BuilderView → ℕ
open_columns view =
    option_map_or (λ block. length (alignments_shown view.alignments block.body)) (innermost_block view.blocks) 0

-- where the innermost open block is a row directly in a table, it contains as many items as that has alignments
abbrev pub InnermostRowIsEven : BuilderView → Type 0
InnermostRowIsEven view =
    (outer : List OpenBlock) (table row : OpenBlock) (levels : List (Forest Shown)) (cells : Forest Shown)
    → view.blocks ≡ outer ++ table ∷ row ∷ [] → view.levels ≡ levels ++ cells ∷ []
    → is_table table.body ≡ true → is_table_row row.body ≡ true
    → length (roots cells) ≡ length (alignments_shown view.alignments table.body)
