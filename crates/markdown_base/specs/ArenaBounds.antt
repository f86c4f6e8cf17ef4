-- The numbers that a tree stores are numbers of its nodes, which are few enough to be counted: facts about the
-- representation.
use Rattle.std.specs.Prelude.{ℕ, ◌-◌, ◌<◌, ◌≤◌, ◌^◌, IfSome, length}
use Rattle.std.specs.List.{AllByRecursion}
use Rattle.markdown_base.specs.declared.node.Node.{Node}
use Rattle.markdown_base.specs.Arena.{Arena}

-- the maximum number of nodes: a link is stored in 32 bits, as the number of its node plus one
abbrev pub node_limit : ℕ
node_limit = 2 ^ 32 - 1

-- a node's links lead to numbers below a size
pub record LeadsBelow {T : Type 0} (size : ℕ) (node : Node T) : Type 0 where
  pub child : IfSome node.child (λ ix. ix < size)
  pub next : IfSome node.next (λ ix. ix < size)

-- every number that an arena stores is the number of a node, and the nodes are few enough to be linked
pub record IsWithin {T : Type 0} (arena : Arena T) : Type 0 where
  pub rooted : 0 < length arena.nodes
  pub cursor : IfSome arena.cursor (λ ix. ix < length arena.nodes)
  pub spine : AllByRecursion (λ ix. ix < length arena.nodes) arena.spine
  pub links : AllByRecursion (LeadsBelow (length arena.nodes)) arena.nodes
  pub few : length arena.nodes ≤ node_limit
