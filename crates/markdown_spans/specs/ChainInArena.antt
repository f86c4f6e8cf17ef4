-- A chain of items in an arena: a fact about the representation.
use Rattle.std.specs.Prelude.{◌≡◌, ℕ, suc, ◌-◌, ◌<◌, ◌≤◌, List, [], ◌∷◌, Option, Some, None, length}
use Rattle.markdown_base.specs.declared.item.Item.{Item}
use Rattle.markdown_base.specs.declared.node.Node.{Node}
use Rattle.markdown_base.specs.Arena.{sibling_of}
use Rattle.markdown_base.specs.BlockTree.{Numbered, item_at}

-- the links to next siblings lead from `link` through these items, to the end; their numbers rise, from `low` on
abbrev pub LeadsThrough : List (Node Item) → (low : ℕ) → Option ℕ → List Numbered → Type 0
LeadsThrough nodes low link [] = link ≡ None
LeadsThrough nodes low link (a ∷ after) =
    (link ≡ Some a.number) × (low ≤ a.number) × (a.number < length nodes) × (item_at nodes a.number ≡ a.item)
    × LeadsThrough nodes (suc a.number) (sibling_of nodes a.number) after

-- the links lead through some chain
pub record HasChain (nodes : List (Node Item)) (link : Option ℕ) : Type 0 where
  pub low : ℕ
  pub chain : List Numbered
  pub leads : LeadsThrough nodes low link chain

-- the maximum number of nodes from a link on, if their numbers rise
abbrev pub numbers_ahead : ℕ → Option ℕ → ℕ
numbers_ahead size None = 0
numbers_ahead size (Some ix) = size - ix
