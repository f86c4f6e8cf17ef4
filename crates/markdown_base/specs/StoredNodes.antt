-- The nodes that a tree stores, as the nodes that contracts describe: a fact about the representation.
use Rattle.std.specs.Prelude.{ℕ, zero, suc, List, Option, Some, None, map}
use Rattle.markdown_base.specs.declared.node.Node.{Node}
use Rattle.markdown_base.specs.declared.stored_node.NodeLink.{NodeLink}
use Rattle.markdown_base.specs.declared.stored_node.StoredNode.{StoredNode}

-- the predecessor of a number, if there is one
abbrev pub number_before : ℕ → Option ℕ
number_before zero = None
number_before (suc ix) = Some ix

-- the number of the node that a link leads to
abbrev pub target_of : NodeLink → Option ℕ
target_of link = number_before link.past

-- the node that a stored node represents
abbrev pub node_of : {T : Type 0} → StoredNode T → Node T
node_of stored = record { item = stored.item; child = target_of stored.child; next = target_of stored.next }

-- the nodes that stored nodes represent, by number
abbrev pub nodes_of : {T : Type 0} → List (StoredNode T) → List (Node T)
nodes_of stored = map node_of stored
