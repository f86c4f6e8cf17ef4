-- The blocks above a chain, as `BlocksAbove` holds them.
use Rattle.std.specs.Prelude.{◌≡◌, ◌≤◌, ◌<◌, ℕ, zero, suc, Bool, List, [], ◌∷◌, if◌then◌else◌, length, map, take}
use Rattle.std.specs.List.{filter}
use Rattle.markdown_base.specs.BlockTree.{item_at}
use Rattle.markdown_base.specs.Item.{is_block, is_table_cell}
use Rattle.markdown_base.specs.declared.item.Item.{Item}
use Rattle.markdown_base.specs.declared.node.Node.{Node}
use Rattle.markdown_spans.specs.ContainerPrefix.{has_prefix}

abbrev pub blocks_in : List Item → List Item
blocks_in items = filter (λ item. is_block item.body) items

-- those that have a part in the beginning of each line inside them
abbrev pub containers_in : Bool → List Item → List Item
containers_in gfm items = filter (λ item. has_prefix gfm item.body) items

-- how many items there are up to the last block, that included: 0 where none is a block
unfoldable pub up_to_block : List Item → ℕ
up_to_block [] = 0
up_to_block (item ∷ items) = elim (up_to_block items) as (λ n. ℕ)
    [ zero ↦ if is_block item.body then 1 else 0 | suc n ↦ suc (suc n) ]

-- what is known of the items that were entered
pub record Above : Type 0 where
  pub gfm_footnotes : Bool
  pub containers : List Item
  -- of so many of them, from the outermost on, so many are up to the last block
  pub searched : ℕ
  pub block : ℕ

-- this is known of these items, the outermost first
pub record IsKnownOf (gfm : Bool) (items : List Item) (above : Above) : Type 0 where
  pub style : above.gfm_footnotes ≡ gfm
  pub containers : above.containers ≡ containers_in gfm items
  pub within : above.searched ≤ length items
  pub block : above.block ≡ up_to_block (take above.searched items)
  -- the last of those that were searched is no block
  pub inside : 0 < above.searched → above.block < above.searched

-- and of the items of the nodes of a spine
abbrev pub IsKnownAt : Bool → List (Node Item) → List ℕ → Above → Type 0
IsKnownAt gfm nodes spine above = IsKnownOf gfm (map (item_at nodes) spine) above

-- where the last of some blocks ends, and whether it is a cell; where there is none, what was so before
unfoldable pub place_inside : List Item → ℕ × Bool → ℕ × Bool
place_inside [] before = before
place_inside (item ∷ items) before = place_inside items (item.end, is_table_cell item.body)
