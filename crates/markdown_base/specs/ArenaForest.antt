-- The forest that the links of an arena represent, by which a tree is read: a fact about the representation.
use Rattle.std.specs.Prelude.{◌≡◌, ℕ, zero, suc, ◌<◌, List, Option, Some, None, length}
use Rattle.markdown_base.specs.declared.node.Node.{Node}
use Rattle.markdown_base.specs.Arena.{child_of, sibling_of}
use Rattle.markdown_base.specs.Forest.{Forest, nil, node}

-- the number of nodes of an arena, and the first child and the next sibling of each
pub record Links : Type 0 where
  pub size : ℕ
  pub child : ℕ → Option ℕ
  pub next : ℕ → Option ℕ

-- the links of an arena's nodes
abbrev pub links_of : {T : Type 0} → List (Node T) → Links
links_of nodes = record { size = length nodes; child = child_of nodes; next = sibling_of nodes }

-- the links from l on lead through the forest f of node numbers
abbrev pub Spells : Links → Option ℕ → Forest ℕ → Type 0
Spells k l nil = l ≡ None
Spells k l (node ix below after) = (l ≡ Some ix) × (ix < k.size) × Spells k (k.child ix) below
    × Spells k (k.next ix) after

-- the forest that the links lead through from l on, following at most n links in a row
abbrev pub followed : ℕ → Links → Option ℕ → Forest ℕ
followed zero k l = nil
followed (suc n) k None = nil
followed (suc n) k (Some ix) = node ix (followed n k (k.child ix)) (followed n k (k.next ix))

-- the forest from l on: if no node is reached twice, no path has more links than there are nodes
unfoldable pub forest_at : Links → Option ℕ → Forest ℕ
forest_at k l = followed k.size k l

-- the forest below the root
abbrev pub numbers_below : {T : Type 0} → List (Node T) → Forest ℕ
numbers_below nodes = forest_at (links_of nodes) (child_of nodes 0)
