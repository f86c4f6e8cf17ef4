-- The link of the node that is read leads to a node of the arena.
use Rattle.std.proofs.Common.{length, ◌∙◌}
use Rattle.markdown_base.specs.StoredNodes.{nodes_of}
use Rattle.markdown_base.proofs.ArenaLemmas.{child_within}
use Rattle.markdown_base.proofs.StoredNodesLemmas.{read_child}
use Rattle.markdown_base.proofs.tree.Tree.child.Goals as goal

pub returns-clause-value : goal.returns-clause-value
returns-clause-value g c =
    rw (← c.self.view_is)
    (c.target.ensures
    ∙ read_child c.self.inside.nodes.items c.args.ix c.index.result.now (rw (← c.self.view_is) at c.requires)
    c.index.ensures)

pub returns-clause-within : goal.returns-clause-within
returns-clause-within g c =
    let within = child_within (nodes_of c.self.inside.nodes.items) (length (nodes_of c.self.inside.nodes.items))
    c.args.ix
    c.self.invariant.links in
    let value =
    c.target.ensures
    ∙ read_child c.self.inside.nodes.items c.args.ix c.index.result.now (rw (← c.self.view_is) at c.requires)
    c.index.ensures in
    rw (← c.self.view_is, value) within
