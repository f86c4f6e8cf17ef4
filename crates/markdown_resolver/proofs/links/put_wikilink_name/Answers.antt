-- A wikilink is put into the node of its opener, with a Text for its name below it.
use Rattle.std.proofs.Common.{◌≡◌, None, Some, ap}
use Rattle.markdown_resolver.specs.LiteralText.{begun_from}
use Rattle.markdown_resolver.proofs.EncloseLemmas.{closer_within, size_child}
use Rattle.markdown_resolver.proofs.FoldLemmas.{after_spelled}
use Rattle.markdown_resolver.proofs.PutNameLemmas.{are_there, hung_tree, name_puts}
use Rattle.markdown_resolver.proofs.links.put_wikilink_name.Goals as goal

pub next-requires : goal.next-requires
next-requires c = closer_within c.requires.7

pub first_past-rest-requires : goal.first_past-rest-requires
first_past-rest-requires c = rw c.next.ensures.value (after_spelled c.requires.7)

pub set_child-requires-clause-node : goal.set_child-requires-clause-node
set_child-requires-clause-node c = (are_there c.requires.4 c.args.first c.requires.5 c.requires.7 c.requires.10).within

pub set_child-requires-clause-child : goal.set_child-requires-clause-child
set_child-requires-clause-child c =
    (are_there c.requires.4 c.args.first c.requires.5 c.requires.7 c.requires.10).first_within

pub set_child-requires-2-clause-node : goal.set_child-requires-2-clause-node
set_child-requires-2-clause-node c =
    rw (size_child c.args.tree.now c.set_child.new.self c.args.brackets.opener (Some c.args.first) c.set_child.ensures)
    (are_there c.requires.4 c.args.first c.requires.5 c.requires.7 c.requires.10).first_within

pub write_node-requires-clause-node : goal.write_node-requires-clause-node
write_node-requires-clause-node c =
    rw (
      size_child c.set_child.new.self c.set_child-2.new.self c.args.first None c.set_child-2.ensures,
      size_child c.args.tree.now c.set_child.new.self c.args.brackets.opener (Some c.args.first) c.set_child.ensures,
    ) (are_there c.requires.4 c.args.first c.requires.5 c.requires.7 c.requires.10).first_within

pub write_node-requires-2-clause-node : goal.write_node-requires-2-clause-node
write_node-requires-2-clause-node c =
    rw (
      c.write_node.ensures.written.size,
      size_child c.set_child.new.self c.set_child-2.new.self c.args.first None c.set_child-2.ensures,
      size_child c.args.tree.now c.set_child.new.self c.args.brackets.opener (Some c.args.first) c.set_child.ensures,
    ) (are_there c.requires.4 c.args.first c.requires.5 c.requires.7 c.requires.10).within

pub write_node-requires-2-clause-next : goal.write_node-requires-2-clause-next
write_node-requires-2-clause-next c =
    rw (
      c.write_node.ensures.written.size,
      size_child c.set_child.new.self c.set_child-2.new.self c.args.first None c.set_child-2.ensures,
      size_child c.args.tree.now c.set_child.new.self c.args.brackets.opener (Some c.args.first) c.set_child.ensures,
    ) c.first_past-rest.ensures.within

pub begin_from-requires : goal.begin_from-requires
begin_from-requires c =
    rw (
      c.write_node-2.ensures.written.size,
      c.write_node.ensures.written.size,
      size_child c.set_child.new.self c.set_child-2.new.self c.args.first None c.set_child-2.ensures,
      size_child c.args.tree.now c.set_child.new.self c.args.brackets.opener (Some c.args.first) c.set_child.ensures,
    ) c.first_past-rest.ensures.within

pub returns-clause-puts : goal.returns-clause-puts
returns-clause-puts c source tables tables' inside skipped shown grown can over puts inside_is names_nothing =
    let old = c.args.tree.now.nodes in
    let both = are_there skipped c.args.first shown can inside_is in
    let hung = hung_tree c.args.tree.now c.set_child.new.self c.set_child-2.new.self c.write_node.new.tree.nodes
    c.args.brackets.opener c.args.first c.args.inside both.within both.first_within both.apart
    c.set_child.ensures c.set_child-2.ensures c.write_node.ensures.written in
    let rest = c.first_past-rest.result in
    let past = rw c.next.ensures.value at c.first_past-rest.ensures.past in
    let nodes : c.begin_from.new.tree.nodes ≡ begun_from rest.next c.args.item.end c.write_node-2.new.tree.nodes = ap
    (λ t. t.nodes) c.begin_from.ensures in
    rw nodes (name_puts source c.args.brackets.opener c.args.brackets.closer c.args.item c.args.inside inside skipped
    c.args.first shown rest old c.write_node.new.tree.nodes c.write_node-2.new.tree.nodes
    tables tables' grown can over puts names_nothing inside_is hung past c.write_node-2.ensures.written)
