-- The node is read, changed and written back.
use Rattle.std.proofs.Common.{◌<◌, length, refl, arith}
use Rattle.std.proofs.lemmas.List.{length-map}
use Rattle.markdown_base.specs.StoredNodes.{node_of, nodes_of}
use Rattle.markdown_base.proofs.StoredNodesLemmas.{arena_changed, leads_within, within_written}
use Rattle.markdown_base.proofs.tree.Tree.set_item.Goals as goal

pub index_mut-requires : goal.index_mut-requires
index_mut-requires g c =
    let there : c.args.ix < length (nodes_of c.self.inside.nodes.items) = rw (← c.self.view_is) at c.requires in
    omega (arith, there, length-map c.self.inside.nodes.items node_of)

pub returns : goal.returns
returns g c =
    arena_changed c.args.self.now c.self.inside.nodes.items c.self.inside.spine.items c.self.inside.cur c.args.ix
    c.index_mut.result.now
    (record c.index_mut.result.now { item = c.args.item }) (λ n. record n { item = c.args.item }) c.self.view_is
    c.requires
    c.index_mut.ensures.value refl

pub invariant_of-self : goal.invariant_of-self
invariant_of-self g c =
    let there = rw (← c.self.view_is) at c.requires in
    let leads = leads_within c.self.inside.nodes.items c.args.ix c.index_mut.result.now there c.index_mut.ensures.value
    c.self.invariant.links in
    within_written c.self.inside.nodes.items c.self.inside.spine.items c.self.inside.cur c.args.ix
    c.index_mut.result.now
    (record c.index_mut.result.now { item = c.args.item }) c.self.invariant there c.index_mut.ensures.value
    (record { child = leads.child; next = leads.next })
