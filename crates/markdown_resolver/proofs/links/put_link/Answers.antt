-- A link is put into the node of its opener, over what is inside.
use Rattle.std.proofs.Common.{◌≡◌, ap}
use Rattle.markdown_resolver.specs.LiteralText.{begun_from}
use Rattle.markdown_resolver.proofs.EncloseLemmas.{are_within, closer_within}
use Rattle.markdown_resolver.proofs.FoldLemmas.{after_spelled}
use Rattle.markdown_resolver.proofs.PutLinkLemmas.{link_puts}
use Rattle.markdown_resolver.proofs.links.put_link.Goals as goal

pub next-requires : goal.next-requires
next-requires c = closer_within c.requires.5

pub first_past-rest-requires : goal.first_past-rest-requires
first_past-rest-requires c = rw c.next.ensures.value (after_spelled c.requires.5)

pub enclose-requires : goal.enclose-requires
enclose-requires c =
    let within = are_within c.requires.5
    (c.last_before-last.ensures c.requires.0 c.requires.1 c.requires.3 c.args.next_byte c.requires.5) in
    record { opener = within.first; last = within.inner; closer = within.end }

pub write_node-requires : goal.write_node-requires
write_node-requires c =
    let within = are_within c.requires.5
    (c.last_before-last.ensures c.requires.0 c.requires.1 c.requires.3 c.args.next_byte c.requires.5) in
    rw c.enclose.ensures.enclosed.size (record { node = within.first; next = c.first_past-rest.ensures.within })

pub begin_from-requires : goal.begin_from-requires
begin_from-requires c = rw (c.write_node.ensures.written.size, c.enclose.ensures.enclosed.size)
    c.first_past-rest.ensures.within

pub returns-clause-puts : goal.returns-clause-puts
returns-clause-puts c source tables tables' inside grown can over =
    let rest = c.first_past-rest.result in
    let past = rw c.next.ensures.value at c.first_past-rest.ensures.past in
    let nodes : c.begin_from.new.tree.nodes ≡ begun_from rest.next c.args.next_byte c.write_node.new.tree.nodes = ap
    (λ t. t.nodes) c.begin_from.ensures in
    rw nodes (link_puts grown can over
    (c.last_before-last.ensures source tables inside c.args.next_byte can) c.enclose.ensures.enclosed past
    c.write_node.ensures.written)
