-- The node is read, changed and written back.
use Rattle.std.proofs.Common.{◌<◌, length, ap, arith}
use Rattle.std.proofs.lemmas.List.{length-map}
use Rattle.markdown_base.specs.StoredNodes.{node_of, nodes_of}
use Rattle.markdown_base.proofs.StoredNodesLemmas.{arena_changed, can_lead, leads_within, within_written}
use Rattle.markdown_base.proofs.tree.Tree.set_next.Goals as goal

pub index_mut-node-requires : goal.index_mut-node-requires
index_mut-node-requires g c =
    let there : c.args.ix < length (nodes_of c.self.inside.nodes.items) = rw (← c.self.view_is) at c.requires.node in
    omega (arith, there, length-map c.self.inside.nodes.items node_of)

pub returns : goal.returns
returns g c =
    arena_changed c.args.self.now c.self.inside.nodes.items c.self.inside.spine.items c.self.inside.cur c.args.ix
    c.index_mut-node.result.now
    (record c.index_mut-node.result.now { next = c.to-node.result }) (λ n. record n { next = c.args.next })
    c.self.view_is c.requires.node
    c.index_mut-node.ensures.value
    (ap (λ l. record (node_of c.index_mut-node.result.now) { next = l }) c.to-node.ensures)

pub invariant_of-self : goal.invariant_of-self
invariant_of-self g c =
    let there = rw (← c.self.view_is) at c.requires.node in
    let leads = leads_within c.self.inside.nodes.items c.args.ix c.index_mut-node.result.now there
    c.index_mut-node.ensures.value
    c.self.invariant.links in
    let link = rw (← c.self.view_is) at c.requires.next in
    within_written c.self.inside.nodes.items c.self.inside.spine.items c.self.inside.cur c.args.ix
    c.index_mut-node.result.now
    (record c.index_mut-node.result.now { next = c.to-node.result }) c.self.invariant there
    c.index_mut-node.ensures.value
    (record { next = rw c.to-node.ensures link; child = leads.child })

pub to-node-requires : goal.to-node-requires
to-node-requires g c =
    can_lead (record {
      nodes = nodes_of c.self.inside.nodes.items;
      spine = c.self.inside.spine.items;
      cursor
          = c.self.inside.cur;
    })
    c.args.next c.self.invariant (rw (← c.self.view_is) at c.requires.next)
