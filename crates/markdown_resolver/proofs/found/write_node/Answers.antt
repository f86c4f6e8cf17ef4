-- Two changes of one node write it.
use Rattle.markdown_resolver.proofs.NodeChangeLemmas.{written_tree, size_written}
use Rattle.markdown_resolver.proofs.found.write_node.Goals as goal

pub set_next-requires-clause-node : goal.set_next-requires-clause-node
set_next-requires-clause-node c = rw
    (size_written c.args.tree.now c.set_item.new.self c.args.ix c.args.item c.set_item.ensures) c.requires.node

pub set_next-requires-clause-next : goal.set_next-requires-clause-next
set_next-requires-clause-next c = rw
    (size_written c.args.tree.now c.set_item.new.self c.args.ix c.args.item c.set_item.ensures) c.requires.next

pub returns-clause-written : goal.returns-clause-written
returns-clause-written c =
    written_tree c.args.tree.now c.set_item.new.self c.set_next.new.self c.args.ix c.args.item c.args.next
    c.requires.node c.set_item.ensures c.set_next.ensures
