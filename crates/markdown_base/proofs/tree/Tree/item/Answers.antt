-- The item is that of the node which is read.
use Rattle.markdown_base.proofs.StoredNodesLemmas.{read_item}
use Rattle.markdown_base.proofs.tree.Tree.item.Goals as goal

pub returns : goal.returns
returns g c =
    λ d. rw (← c.self.view_is)
    (read_item c.self.inside.nodes.items c.args.ix c.index.result.now d (rw (← c.self.view_is) at c.requires)
    c.index.ensures)
