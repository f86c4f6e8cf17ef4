-- Sums over what is left of a walk: how often a number occurs, and how many steps there are.
use Rattle.std.specs.Prelude.{ℕ, ◌+◌, ◌*◌, Bool, true, false, List, [], ◌∷◌, Option, Some, None}
use Rattle.markdown_base.specs.ArenaForest.{Links, links_of, forest_at}
use Rattle.markdown_base.specs.BlockTree.{item_at}
use Rattle.markdown_base.specs.Item.{is_open}
use Rattle.markdown_base.specs.declared.item.Item.{Item}
use Rattle.markdown_base.specs.declared.node.Node.{Node}
use Rattle.markdown_document.specs.Totals.{weight_at, total, same}
use Rattle.markdown_base.specs.Arena.{Arena}

-- the sum over what is above the chain at hand: `gone` of each node that was entered, and `count` of each node that
-- follows it
abbrev pub climbed : (gone count : ℕ → ℕ) → Links → List ℕ → ℕ
climbed gone count k [] = 0
climbed gone count k (ix ∷ deeper) = climbed gone count k deeper + (gone ix + total count (forest_at k (k.next ix)))

-- the sum over what is left of a walk
unfoldable pub left_total : (gone count : ℕ → ℕ) → Links → Option ℕ → List ℕ → ℕ
left_total gone count k l spine = total count (forest_at k l) + climbed gone count k spine

-- how often a number occurs in what is left
abbrev pub times_left : Links → Option ℕ → List ℕ → ℕ → ℕ
times_left k l spine n = left_total (same n) (same n) k l spine

-- the weight of what is left: of a node that was entered, only the move out of it is left
abbrev pub weight_to_come : List (Node Item) → Option ℕ → List ℕ → ℕ
weight_to_come nodes l spine = left_total (λ ix. 1) (weight_at nodes) (links_of nodes) l spine

-- 1 where the condition is true, and otherwise 0
abbrev pub one_if : Bool → ℕ
one_if true = 1
one_if false = 0

-- 1 where the node is an open item, whose chain is to be resolved next, and otherwise 0
abbrev pub waits_at : List (Node Item) → Option ℕ → ℕ
waits_at nodes None = 0
waits_at nodes (Some ix) = one_if (is_open (item_at nodes ix).body)

-- a bound on the steps of a walk: resolving a chain is a step of its own, so it need not make what is left lighter
abbrev pub steps_of : List (Node Item) → Option ℕ → List ℕ → ℕ
steps_of nodes l spine = 2 * weight_to_come nodes l spine + waits_at nodes l

-- a bound on the steps of the walk of a tree
abbrev pub tree_steps : Arena Item → ℕ
tree_steps arena = steps_of arena.nodes arena.cursor arena.spine
