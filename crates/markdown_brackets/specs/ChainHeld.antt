-- The trees of a chain in an arena, where the note of each is the number of its node in the arena.
use Rattle.std.specs.Prelude.{◌≡◌, ℕ, ◌<◌, List, Option, Some, None, length}
use Rattle.markdown_base.specs.Arena.{child_of, sibling_of}
use Rattle.markdown_base.specs.BlockTree.{item_at}
use Rattle.markdown_base.specs.Forest.{Forest, nil, node, relabelled}
use Rattle.markdown_base.specs.declared.item.Item.{Item}
use Rattle.markdown_base.specs.declared.node.Node.{Node}
use Rattle.markdown_document.specs.Document.{TreeNode, Plain, part_of}
use Rattle.markdown_document.specs.Tables.{Tables}
use Rattle.markdown_document.specs.Totals.{total, same}

-- the links from l on lead through these trees: the node with each note's number reads as the tree's node
abbrev pub Holds : List ℕ → Tables → List (Node Item) → Option ℕ → Forest (TreeNode ℕ) → Type 0
Holds source tables nodes l nil = l ≡ None
Holds source tables nodes l (node a below after) =
    (l ≡ Some a.note) × (a.note < length nodes) × (part_of source tables (item_at nodes a.note) ≡ a.part)
    × Holds source tables nodes (child_of nodes a.note) below
    × Holds source tables nodes (sibling_of nodes a.note) after

-- the numbers of the nodes of a forest
abbrev pub numbers_of : Forest (TreeNode ℕ) → Forest ℕ
numbers_of f = relabelled (λ a. a.note) f

-- a forest without the numbers of its nodes
abbrev pub unannotated : Forest (TreeNode ℕ) → Forest Plain
unannotated f = relabelled (λ a. record { note = tt; part = a.part }) f

-- the number of times that a node occurs in a forest
abbrev pub times_of : ℕ → Forest (TreeNode ℕ) → ℕ
times_of n f = total (same n) (numbers_of f)

-- the link to the first tree of a forest
abbrev pub link_to : Forest (TreeNode ℕ) → Option ℕ
link_to nil = None
link_to (node a below after) = Some a.note
