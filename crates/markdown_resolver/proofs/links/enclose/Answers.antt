-- Three writes put what is inside below the opener.
use Rattle.std.proofs.Common.{None}
use Rattle.markdown_resolver.proofs.EncloseLemmas.{enclosed_tree, size_next, size_child}
use Rattle.markdown_resolver.proofs.links.enclose.Goals as goal

pub next-inside-requires : goal.next-inside-requires
next-inside-requires c = rw (size_next c.args.tree.now c.set_next.new.self c.args.last None c.set_next.ensures)
    c.requires.opener

pub set_child-requires-clause-node : goal.set_child-requires-clause-node
set_child-requires-clause-node c = rw
    (size_next c.args.tree.now c.set_next.new.self c.args.last None c.set_next.ensures) c.requires.opener

pub set_next-requires-2-clause-node : goal.set_next-requires-2-clause-node
set_next-requires-2-clause-node c =
    rw (
      size_child c.set_next.new.self c.set_child.new.self c.args.opener c.next-inside.result c.set_child.ensures,
      size_next c.args.tree.now c.set_next.new.self c.args.last None c.set_next.ensures,
    ) c.requires.opener

pub set_next-requires-2-clause-next : goal.set_next-requires-2-clause-next
set_next-requires-2-clause-next c =
    rw (
      size_child c.set_next.new.self c.set_child.new.self c.args.opener c.next-inside.result c.set_child.ensures,
      size_next c.args.tree.now c.set_next.new.self c.args.last None c.set_next.ensures,
    ) c.requires.closer

pub returns-clause-enclosed : goal.returns-clause-enclosed
returns-clause-enclosed c =
    enclosed_tree c.args.tree.now c.set_next.new.self c.set_child.new.self c.set_next-2.new.self c.args.opener
    c.args.last c.args.closer c.next-inside.result
    c.requires.opener c.requires.last c.next-inside.ensures.value c.set_next.ensures c.set_child.ensures
    c.set_next-2.ensures
