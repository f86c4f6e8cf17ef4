-- A Text is put into the node of an opener, and a reference into that of its closer.
use Rattle.std.proofs.Common.{◌≡◌, ap}
use Rattle.markdown_resolver.specs.LiteralText.{begun_from}
use Rattle.markdown_resolver.proofs.EncloseLemmas.{closer_within}
use Rattle.markdown_resolver.proofs.FoldLemmas.{after_spelled}
use Rattle.markdown_resolver.proofs.PutMarkLemmas.{mark_puts}
use Rattle.markdown_resolver.proofs.LiteralTextLemmas.{node_within}
use Rattle.markdown_resolver.proofs.links.put_image_footnote.Goals as goal

pub write_node-requires-clause-node : goal.write_node-requires-clause-node
write_node-requires-clause-node c = node_within c.requires.5.ready

pub write_node-requires-clause-next : goal.write_node-requires-clause-next
write_node-requires-clause-next c = closer_within c.requires.5

pub next-requires : goal.next-requires
next-requires c = closer_within c.requires.5

pub first_past-rest-requires : goal.first_past-rest-requires
first_past-rest-requires c = rw c.next.ensures.value (after_spelled c.requires.5)

pub write_node-requires-2-clause-node : goal.write_node-requires-2-clause-node
write_node-requires-2-clause-node c = rw c.write_node.ensures.written.size (closer_within c.requires.5)

pub returns-clause-puts : goal.returns-clause-puts
returns-clause-puts c source tables tables' inside grown can over =
    let old = c.args.tree.now.nodes in
    let mid = c.write_node.new.tree.nodes in
    let last = c.write_node-2.new.tree.nodes in
    let rest = c.first_past-rest.result in
    let past = rw c.next.ensures.value at c.first_past-rest.ensures.past in
    let nodes : c.begin_from.new.tree.nodes ≡ begun_from rest.next c.args.item.end last = ap (λ t. t.nodes)
    c.begin_from.ensures in
    rw nodes (mark_puts grown can over c.write_node.ensures.written rest last past c.write_node-2.ensures.written)
