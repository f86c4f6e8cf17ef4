-- The rules hold throughout the trees from a link on if and only if the node of each number keeps them: the one way
-- from trees to numbers and back.
use Rattle.std.proofs.Common.{◌≡◌, ℕ, ◌≤◌, List, Option, length, refl, ap, arith}
use Rattle.std.specs.Prelude.{◌↔◌}
use Rattle.std.specs.Option.{option_map}
use Rattle.markdown_base.specs.declared.item.Item.{Item}
use Rattle.markdown_base.specs.declared.node.Node.{Node}
use Rattle.markdown_base.specs.Arena.{child_of, sibling_of}
use Rattle.markdown_base.specs.ArenaForest.{links_of, Spells}
use Rattle.markdown_base.specs.ArenaRules.{next_at, NodeKeepsRules}
use Rattle.markdown_base.specs.BlockTree.{numbered, trees_at}
use Rattle.markdown_base.specs.Forest.{Forest, nil, node, Each, first_root, relabelled}
use Rattle.markdown_base.specs.WellFormed.{PartCounts, AllKeepRules}
use Rattle.markdown_base.proofs.ArenaForestLemmas.{height, forest_at-fits}

-- the trees from a link on are those that its links represent
pub trees_at-fits : (nodes : List (Node Item)) (l : Option ℕ) (f : Forest ℕ) → Spells (links_of nodes) l f
    → height f ≤ length nodes
    → trees_at nodes l ≡ relabelled (numbered nodes) f
trees_at-fits nodes l f s h = ap (relabelled (numbered nodes)) (forest_at-fits (links_of nodes) l f s h)

-- the first of these trees is that of the link's node
pub first_spelled : (nodes : List (Node Item)) (l : Option ℕ) (f : Forest ℕ) → Spells (links_of nodes) l f
    → option_map (numbered nodes) l ≡ first_root (relabelled (numbered nodes) f)
first_spelled nodes l nil s = rw s refl
first_spelled nodes l (node ix below after) s = rw s.0 refl

-- what a node's links represent, and that it is no higher
record Opens (nodes : List (Node Item)) (ix : ℕ) (below after : Forest ℕ) : Type 0 where
  inside : trees_at nodes (child_of nodes ix) ≡ relabelled (numbered nodes) below
  next : next_at nodes ix ≡ first_root (relabelled (numbered nodes) after)
  low : height below ≤ length nodes
  flat : height after ≤ length nodes

node_opens : (nodes : List (Node Item)) (l : Option ℕ) (ix : ℕ) (below after : Forest ℕ)
    → Spells (links_of nodes) l (node ix below after)
    → height (node ix below after) ≤ length nodes → Opens nodes ix below after
node_opens nodes l ix below after s h = record {
  inside = trees_at-fits nodes (child_of nodes ix) below s.2 (omega (arith, h));
  next = first_spelled nodes (sibling_of nodes ix) after s.3;
  low = omega (arith, h);
  flat = omega (arith, h);
}

pub by_number : (text : List ℕ) (counts : PartCounts) (nodes : List (Node Item)) (l : Option ℕ) (f : Forest ℕ)
    → Spells (links_of nodes) l f → height f ≤ length nodes
    → AllKeepRules text counts (relabelled (numbered nodes) f) ↔ Each (NodeKeepsRules text counts nodes) f
by_number text counts nodes l nil s h = (λ t. tt, λ e. tt)
by_number text counts nodes l (node ix below after) s h =
    let o = node_opens nodes l ix below after s h in
    let i = by_number text counts nodes (child_of nodes ix) below s.2 o.low in
    let j = by_number text counts nodes (sibling_of nodes ix) after s.3 o.flat in (
      λ t. (rw (o.inside, o.next) t.0, i.0 t.1, j.0 t.2),
      λ e. (rw (o.inside, o.next) at e.0, i.1 e.1, j.1 e.2),
    )
