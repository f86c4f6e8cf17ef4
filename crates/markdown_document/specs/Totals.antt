-- Sums over the nodes of a forest of numbers: how often a number occurs, and the weight.
use Rattle.std.specs.Prelude.{ℕ, zero, suc, ◌+◌, Bool, true, false, List}
use Rattle.markdown_base.specs.BlockTree.{item_at}
use Rattle.markdown_base.specs.Forest.{Forest, nil, node}
use Rattle.markdown_base.specs.Item.{is_open}
use Rattle.markdown_base.specs.declared.item.Item.{Item}
use Rattle.markdown_base.specs.declared.node.Node.{Node}

-- the sum of the counts of all nodes
abbrev pub total : (ℕ → ℕ) → Forest ℕ → ℕ
total count nil = 0
total count (node ix below after) = count ix + (total count below + total count after)

-- 1 where the two numbers are equal, and otherwise 0
abbrev pub same : ℕ → ℕ → ℕ
same zero zero = 1
same zero (suc m) = 0
same (suc n) zero = 0
same (suc n) (suc m) = same n m

-- the weight of a node: one move into it and one out of it, and as many again for the second node that an open item may
-- become
abbrev pub weight_if : (is_open : Bool) → ℕ
weight_if true = 4
weight_if false = 2

-- the weight of the node with this number
abbrev pub weight_at : List (Node Item) → ℕ → ℕ
weight_at nodes ix = weight_if (is_open (item_at nodes ix).body)
