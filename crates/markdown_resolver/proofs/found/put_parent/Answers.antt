-- An item with one child is put into the node of its opener.
use Rattle.std.proofs.Common.{◌≡◌, ◌<◌, ℕ, suc, length, Option, Some, None, ap, ◌∙◌, arith}
use Rattle.std.specs.Prelude.{IfSome}
use Rattle.markdown_resolver.specs.LiteralText.{begun_from}
use Rattle.markdown_resolver.proofs.PutFoundLemmas.{rest_spelled, parent_puts, is_hung, hung_size, hung_below}
use Rattle.markdown_resolver.proofs.LiteralTextLemmas.{node_within}
use Rattle.markdown_resolver.proofs.found.put_parent.Goals as goal

within_more : (o : Option ℕ) (a b : ℕ) → b ≡ suc a → IfSome o (λ n. n < a) → IfSome o (λ n. n < b)
within_more None a b e h = tt
within_more (Some n) a b e h = omega (arith, e, h)

pub first_past-rest-requires : goal.first_past-rest-requires
first_past-rest-requires c =
    rw c.next.ensures.value (rest_spelled c.requires.0 c.requires.1 c.args.tree.now.nodes c.args.ix c.requires.4.ready)

pub write_node-requires-clause-node : goal.write_node-requires-clause-node
write_node-requires-clause-node c =
    let hung = is_hung c.args.tree.now c.create_node.new.self c.set_child.new.self c.args.ix c.in_ok-child.child
    c.args.inside c.in_ok-child.ensures.number c.in_ok-child.ensures.made c.set_child.ensures in
    let size = hung_size c.args.tree.now c.set_child.new.self c.args.ix c.in_ok-child.child c.args.inside hung in
    omega (arith, size, node_within c.requires.4.ready)

pub write_node-requires-clause-next : goal.write_node-requires-clause-next
write_node-requires-clause-next c =
    let hung = is_hung c.args.tree.now c.create_node.new.self c.set_child.new.self c.args.ix c.in_ok-child.child
    c.args.inside c.in_ok-child.ensures.number c.in_ok-child.ensures.made c.set_child.ensures in
    within_more c.first_past-rest.result.next (length c.args.tree.now.nodes) (length c.set_child.new.self.nodes)
    (hung_size c.args.tree.now c.set_child.new.self c.args.ix c.in_ok-child.child c.args.inside hung)
    c.first_past-rest.ensures.within

pub begin_from-requires : goal.begin_from-requires
begin_from-requires c =
    let hung = is_hung c.args.tree.now c.create_node.new.self c.set_child.new.self c.args.ix c.in_ok-child.child
    c.args.inside c.in_ok-child.ensures.number c.in_ok-child.ensures.made c.set_child.ensures in
    within_more c.first_past-rest.result.next (length c.args.tree.now.nodes) (length c.write_node.new.tree.nodes)
    (c.write_node.ensures.written.size ∙ hung_size c.args.tree.now c.set_child.new.self c.args.ix c.in_ok-child.child
    c.args.inside hung) c.first_past-rest.ensures.within

pub returns-clause-puts : goal.returns-clause-puts
returns-clause-puts c source tables tables' grown finds can =
    let old = c.args.tree.now.nodes in
    let mid = c.write_node.new.tree.nodes in
    let rest = c.first_past-rest.result in
    let past = rw c.next.ensures.value at c.first_past-rest.ensures.past in
    let nodes : c.begin_from.new.tree.nodes ≡ begun_from rest.next c.args.item.end mid = ap (λ t. t.nodes)
    c.begin_from.ensures in
    let hung = is_hung c.args.tree.now c.create_node.new.self c.set_child.new.self c.args.ix c.in_ok-child.child
    c.args.inside c.in_ok-child.ensures.number c.in_ok-child.ensures.made c.set_child.ensures in
    let h = hung_below c.args.tree.now c.set_child.new.self mid c.args.ix c.in_ok-child.child c.args.item c.args.inside
    rest.next (node_within finds.ready) hung c.write_node.ensures.written in
    rw nodes (parent_puts grown finds can past h.item_is h.next_is h.others h.new_below)
