-- Two items are put into the nodes of an opener and of what closes it.
use Rattle.std.proofs.Common.{◌≡◌, ap}
use Rattle.markdown_resolver.specs.LiteralText.{begun_from}
use Rattle.markdown_resolver.proofs.PutFoundLemmas.{rest_spelled}
use Rattle.markdown_resolver.proofs.PutPairLemmas.{pair_puts}
use Rattle.markdown_resolver.proofs.found.put_pair.Goals as goal

pub first_past-rest-requires : goal.first_past-rest-requires
first_past-rest-requires c =
    rw c.next.ensures.value (rest_spelled c.requires.0 c.requires.1 c.args.tree.now.nodes c.args.ix c.requires.4.ready)

pub returns-clause-puts : goal.returns-clause-puts
returns-clause-puts c source tables tables' grown finds can =
    let last = c.write_node-2.new.tree.nodes in
    let rest = c.first_past-rest.result in
    let past = rw c.next.ensures.value at c.first_past-rest.ensures.past in
    let nodes : c.begin_from.new.tree.nodes ≡ begun_from rest.next c.args.second.end last = ap (λ t. t.nodes)
    c.begin_from.ensures in
    rw nodes (pair_puts grown finds can past c.write_node.ensures.written c.write_node-2.ensures.written)
