-- A reference is put into the node of its opener.
use Rattle.std.proofs.Common.{◌≡◌, ap}
use Rattle.markdown_resolver.specs.LiteralText.{begun_from}
use Rattle.markdown_resolver.proofs.EncloseLemmas.{closer_within}
use Rattle.markdown_resolver.proofs.FoldLemmas.{after_spelled}
use Rattle.markdown_resolver.proofs.PutReferenceLemmas.{reference_puts}
use Rattle.markdown_resolver.proofs.LiteralTextLemmas.{node_within}
use Rattle.markdown_resolver.proofs.links.put_footnote.Goals as goal

pub next-requires : goal.next-requires
next-requires c = closer_within c.requires.5

pub first_past-rest-requires : goal.first_past-rest-requires
first_past-rest-requires c = rw c.next.ensures.value (after_spelled c.requires.5)

pub write_node-requires-clause-node : goal.write_node-requires-clause-node
write_node-requires-clause-node c = node_within c.requires.5.ready

pub returns-clause-puts : goal.returns-clause-puts
returns-clause-puts c source tables tables' inside grown can over ends =
    let old = c.args.tree.now.nodes in
    let mid = c.write_node.new.tree.nodes in
    let rest = c.first_past-rest.result in
    let past = rw c.next.ensures.value at c.first_past-rest.ensures.past in
    let nodes : c.begin_from.new.tree.nodes ≡ begun_from rest.next c.args.item.end mid = ap (λ t. t.nodes)
    c.begin_from.ensures in
    rw nodes (reference_puts grown can over ends rest mid past c.write_node.ensures.written)
