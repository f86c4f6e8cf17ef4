-- The tree of a block result: its items, each with its number, below the root.
use Rattle.std.specs.Prelude.{ℕ, List, Option, slice_index_or}
use Rattle.markdown_base.specs.declared.item.Item.{Item}
use Rattle.markdown_base.specs.declared.item.ItemBody.TheVariants as body
use Rattle.markdown_base.specs.declared.node.Node.{Node}
use Rattle.markdown_base.specs.Arena.{child_of, items_of}
use Rattle.markdown_base.specs.ArenaForest.{links_of, forest_at}
use Rattle.markdown_base.specs.Forest.{Forest, relabelled}

-- an item with the number of its node
pub record Numbered : Type 0 where
  pub number : ℕ
  pub item : Item

-- a placeholder for the item of a number that no node has
abbrev pub no_item : Item
no_item = record { start = 0; end = 0; body = body.Root }

-- the item of a number
abbrev pub item_at : List (Node Item) → ℕ → Item
item_at nodes ix = slice_index_or (items_of nodes) ix no_item

-- the item of a node, with its number
abbrev pub numbered : List (Node Item) → ℕ → Numbered
numbered nodes ix = record { number = ix; item = item_at nodes ix }

-- the trees from a link on
abbrev pub trees_at : List (Node Item) → Option ℕ → Forest Numbered
trees_at nodes link = relabelled (numbered nodes) (forest_at (links_of nodes) link)

-- the trees below the root
abbrev pub tree_of : List (Node Item) → Forest Numbered
tree_of nodes = trees_at nodes (child_of nodes 0)
