-- The items of an arena, by the numbers of its nodes: how they read.
use Rattle.markdown_base.specs.ArenaForest.{links_of, forest_at}
use Rattle.markdown_base.specs.BlockTree.{item_at}
use Rattle.markdown_base.specs.Bytes.{pipe}
use Rattle.markdown_base.specs.Forest.{Forest, relabelled}
use Rattle.markdown_base.specs.declared.item.Item.{Item}
use Rattle.markdown_base.specs.declared.node.Node.{Node}
use Rattle.markdown_document.specs.Document.{Plain, tree_node_of}
use Rattle.markdown_document.specs.Tables.{Tables}
use Rattle.std.specs.Prelude.{ℕ, zero, suc, Bool, false, List, Option, ◌==◌, if◌then◌else◌, slice_index}

-- the tree node as which the arena's node with this number reads
abbrev pub tree_node_at : List ℕ → Tables → List (Node Item) → ℕ → Plain
tree_node_at source tables nodes ix = tree_node_of source tables (item_at nodes ix)

-- the trees from a link on
abbrev pub trees_from : List ℕ → Tables → List (Node Item) → Option ℕ → Forest Plain
trees_from source tables nodes link = relabelled (tree_node_at source tables nodes) (forest_at (links_of nodes) link)

-- a pipe precedes this byte offset
abbrev pub follows_pipe : List ℕ → ℕ → Bool
follows_pipe source zero = false
follows_pipe source (suc i) = slice_index source i == pipe

-- The byte offset from which on what an item refers to comes from the source, by the item's start: from there on; but
-- from the beginning on where a pipe precedes the item, since the pipe of a wikilink may cut off what an item begins
-- with.
abbrev pub origin_start : List ℕ → (start : ℕ) → ℕ
origin_start source start = if follows_pipe source start then 0 else start
