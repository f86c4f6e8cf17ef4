-- The new node's links lead nowhere.
use Rattle.std.proofs.Common.{◌<◌, length, refl, arith}
use Rattle.std.proofs.lemmas.List.{length-map, map-append}
use Rattle.markdown_base.specs.ArenaBounds.{node_limit}
use Rattle.markdown_base.specs.StoredNodes.{node_of, nodes_of}
use Rattle.markdown_base.proofs.StoredNodesLemmas.{within_stored}
use Rattle.markdown_base.proofs.tree.Tree.create_node.Goals as goal

pub invariant_of-self : goal.invariant_of-self
invariant_of-self g c = rw c.in_err-push.ensures.items c.self.invariant

pub returns-clause-number : goal.returns-clause-number
returns-clause-number g c =
    rw (← c.self.view_is) (omega (arith, c.len-ix.ensures, length-map c.self.inside.nodes.items node_of))

pub returns-clause-made : goal.returns-clause-made
returns-clause-made g c =
    rw (
      ← c.self.view_is,
      c.in_ok-push.ensures.items,
      map-append node_of c.self.inside.nodes.items,
      c.to.ensures,
      c.to-2.ensures,
    )
    refl

pub invariant_of-self-2 : goal.invariant_of-self-2
invariant_of-self-2 g c =
    let few : length (nodes_of c.self.inside.nodes.items) < node_limit =
    omega (arith, c.len-ix.ensures, length-map c.self.inside.nodes.items node_of) in
    rw c.in_ok-push.ensures.items
    (within_stored c.self.inside.nodes.items c.self.inside.spine.items c.self.inside.cur _ c.self.invariant few
    (rw c.to.ensures tt)
    (rw c.to-2.ensures tt))
