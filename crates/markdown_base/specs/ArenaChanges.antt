-- How the calls of a `Tree` change its arena: one node is changed, or a node is appended at the cursor.
use Rattle.std.specs.Prelude.{ℕ, zero, suc, List, [], ◌∷◌, ◌++◌, Option, Some, None, length}
use Rattle.markdown_base.specs.declared.node.Node.{Node}
use Rattle.markdown_base.specs.Arena.{Arena, child_of, sibling_of}

-- the node entered last, or the root
abbrev pub innermost : List ℕ → ℕ
innermost [] = 0
innermost (outer ∷ []) = outer
innermost (outer ∷ inner ∷ deeper) = innermost (inner ∷ deeper)

-- a node without children or a next sibling
abbrev pub single : {T : Type 0} → T → Node T
single item = record { item = item; child = None; next = None }

-- the nodes, with the node of one number changed
abbrev pub changed_at : {T : Type 0} → ℕ → (Node T → Node T) → List (Node T) → List (Node T)
changed_at ix change [] = []
changed_at zero change (n ∷ nodes) = change n ∷ nodes
changed_at (suc ix) change (n ∷ nodes) = n ∷ changed_at ix change nodes

-- what a node appended now would precede: the node after the cursor or, without one, the first child of `innermost`
abbrev pub follower : {T : Type 0} → List (Node T) → List ℕ → Option ℕ → Option ℕ
follower nodes spine (Some before) = sibling_of nodes before
follower nodes spine None = child_of nodes (innermost spine)

-- the nodes, with the link at the cursor's position leading to a node
abbrev pub led_to : {T : Type 0} → ℕ → List ℕ → Option ℕ → List (Node T) → List (Node T)
led_to ix spine (Some before) nodes = changed_at before (λ n. record n { next = Some ix }) nodes
led_to ix spine None nodes = changed_at (innermost spine) (λ n. record n { child = Some ix }) nodes

-- the arena with a new node at the cursor's position, followed by the node that was there; the cursor moves to it
abbrev pub appended : {T : Type 0} → Arena T → T → Arena T
appended arena item = record arena {
  nodes = led_to (length arena.nodes) arena.spine arena.cursor
      (arena.nodes ++ record { item = item; child = None; next = follower arena.nodes arena.spine arena.cursor } ∷ []);
  cursor = Some (length arena.nodes);
}
