-- The blocks that enclose a chain: what its rules read of them.
use Rattle.std.specs.Prelude.{ℕ, Bool, false, List, [], ◌∷◌, ◌++◌, Option, Some, None, length}
use Rattle.std.specs.declared.ops.Range.{Range}
use Rattle.markdown_base.specs.BlockTree.{item_at}
use Rattle.markdown_base.specs.Item.{is_table_cell, range_of}
use Rattle.markdown_base.specs.declared.item.Item.{Item}
use Rattle.markdown_base.specs.declared.item.ItemBody.{ItemBody}
use Rattle.markdown_base.specs.declared.node.Node.{Node}
use Rattle.markdown_document.specs.Document.{TreeNode, block_of}

-- the end of the innermost block, past which nothing is scanned; whether that block is a cell of a table; and the
-- bodies of the blocks, the outermost first, which determine the prefix of a line
pub record EnclosingBlocks : Type 0 where
  pub block_end : ℕ
  pub in_table : Bool
  pub bodies : List ItemBody

-- no block is open: scans stop at the end of the text
abbrev pub no_blocks : List ℕ → EnclosingBlocks
no_blocks source = record { block_end = length source; in_table = false; bodies = [] }

-- inside a tree over a range: only a block counts, and not inline markup such as a link or emphasis
abbrev pub inside_block : Option ItemBody → Range ℕ → EnclosingBlocks → EnclosingBlocks
inside_block None range above = above
inside_block (Some block) range above = record {
  block_end = range.end;
  in_table = is_table_cell block;
  bodies = above.bodies ++ block ∷ [];
}

-- the blocks above the children of a node
abbrev pub inside_node : {A : Type 0} → TreeNode A → EnclosingBlocks → EnclosingBlocks
inside_node a above = inside_block a.part.block a.part.range above

-- the blocks above the children of an item
abbrev pub inside_item : Item → EnclosingBlocks → EnclosingBlocks
inside_item item above = inside_block (block_of item.body) (range_of item) above

-- the blocks above the children of the last node of a spine, which has the outermost node first
abbrev pub inside_all : List (Node Item) → List ℕ → EnclosingBlocks → EnclosingBlocks
inside_all nodes [] above = above
inside_all nodes (ix ∷ deeper) above = inside_all nodes deeper (inside_item (item_at nodes ix) above)

-- the blocks above the chain below a spine
abbrev pub above_at : List ℕ → List (Node Item) → List ℕ → EnclosingBlocks
above_at source nodes spine = inside_all nodes spine (no_blocks source)
