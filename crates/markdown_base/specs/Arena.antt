-- A `Tree` as contracts describe it: its numbered nodes, the nodes entered, and the cursor.
use Rattle.std.specs.Prelude.{ℕ, List, Option, None, map, slice_index_or}
use Rattle.markdown_base.specs.declared.node.Node.{Node}

pub record Arena (T : Type 0) : Type 0 where
  -- by number; node 0 is the root
  pub nodes : List (Node T)
  -- the nodes entered, the outermost first
  pub spine : List ℕ
  -- the node at the cursor
  pub cursor : Option ℕ

-- the items of nodes, by number
abbrev pub items_of : {T : Type 0} → List (Node T) → List T
items_of nodes = map (λ n. n.item) nodes

-- the first children of nodes, by number
abbrev pub children_of : {T : Type 0} → List (Node T) → List (Option ℕ)
children_of nodes = map (λ n. n.child) nodes

-- the next siblings of nodes, by number
abbrev pub siblings_of : {T : Type 0} → List (Node T) → List (Option ℕ)
siblings_of nodes = map (λ n. n.next) nodes

-- the first child of a node
abbrev pub child_of : {T : Type 0} → List (Node T) → ℕ → Option ℕ
child_of nodes ix = slice_index_or (children_of nodes) ix None

-- the next sibling of a node
abbrev pub sibling_of : {T : Type 0} → List (Node T) → ℕ → Option ℕ
sibling_of nodes ix = slice_index_or (siblings_of nodes) ix None
