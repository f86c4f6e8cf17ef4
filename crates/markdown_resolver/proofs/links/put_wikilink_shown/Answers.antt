-- A wikilink is put into the node of its opener, over what it shows.
use Rattle.std.proofs.Common.{◌≡◌, Some, ap, ◌∙◌}
use Rattle.markdown_base.specs.declared.item.Item.{Item}
use Rattle.markdown_base.specs.declared.node.Node.{Node}
use Rattle.std.specs.Prelude.{List}
use Rattle.markdown_resolver.specs.LiteralText.{begun_from}
use Rattle.markdown_resolver.proofs.EncloseLemmas.{are_within, closer_within, with_child}
use Rattle.markdown_resolver.proofs.FoldLemmas.{after_spelled}
use Rattle.markdown_resolver.proofs.PutShownLemmas.{opener_shown, shown_puts, shown_size, shown_within}
use Rattle.markdown_resolver.proofs.links.put_wikilink_shown.Goals as goal

pub next-requires : goal.next-requires
next-requires c = closer_within c.requires.6

pub first_past-rest-requires : goal.first_past-rest-requires
first_past-rest-requires c = rw c.next.ensures.value (after_spelled c.requires.6)

pub enclose-requires-clause-opener : goal.enclose-requires-clause-opener
enclose-requires-clause-opener c =
    (are_within c.requires.6
    (c.last_before.ensures c.requires.0 c.requires.1 c.requires.3 c.args.item.end c.requires.6)).first

pub enclose-requires-clause-last : goal.enclose-requires-clause-last
enclose-requires-clause-last c =
    (are_within c.requires.6
    (c.last_before.ensures c.requires.0 c.requires.1 c.requires.3 c.args.item.end c.requires.6)).inner

pub enclose-requires-clause-closer : goal.enclose-requires-clause-closer
enclose-requires-clause-closer c =
    (are_within c.requires.6
    (c.last_before.ensures c.requires.0 c.requires.1 c.requires.3 c.args.item.end c.requires.6)).end

pub begin_from-requires : goal.begin_from-requires
begin_from-requires c =
    let hung : c.set_child.new.self.nodes ≡ with_child c.args.brackets.opener (Some c.args.first)
    c.enclose.new.tree.nodes = ap (λ t. t.nodes) c.set_child.ensures in
    rw hung (shown_within c.requires.6
    (c.last_before.ensures c.requires.0 c.requires.1 c.requires.3 c.args.item.end c.requires.6)
    c.enclose.ensures.enclosed c.requires.8)

pub write_node-requires : goal.write_node-requires
write_node-requires c =
    let hung : c.set_child.new.self.nodes ≡ with_child c.args.brackets.opener (Some c.args.first)
    c.enclose.new.tree.nodes = ap (λ t. t.nodes) c.set_child.ensures in
    let place : c.begin_from.new.tree.nodes ≡ begun_from (Some c.args.first) c.args.from
    (with_child c.args.brackets.opener (Some c.args.first) c.enclose.new.tree.nodes) =
    ap (λ t. t.nodes) c.begin_from.ensures
    ∙ ap (λ (ns : List (Node Item)). begun_from (Some c.args.first) c.args.from ns) hung in
    let last = c.last_before.ensures c.requires.0 c.requires.1 c.requires.3 c.args.item.end c.requires.6 in
    rw place (record {
      node = opener_shown c.requires.6 last c.enclose.ensures.enclosed c.requires.8;
      next = rw (shown_size c.requires.6 last c.enclose.ensures.enclosed c.requires.8) c.first_past-rest.ensures.within;
    })

pub begin_from-requires-2 : goal.begin_from-requires-2
begin_from-requires-2 c =
    let hung : c.set_child.new.self.nodes ≡ with_child c.args.brackets.opener (Some c.args.first)
    c.enclose.new.tree.nodes = ap (λ t. t.nodes) c.set_child.ensures in
    let place : c.begin_from.new.tree.nodes ≡ begun_from (Some c.args.first) c.args.from
    (with_child c.args.brackets.opener (Some c.args.first) c.enclose.new.tree.nodes) =
    ap (λ t. t.nodes) c.begin_from.ensures
    ∙ ap (λ (ns : List (Node Item)). begun_from (Some c.args.first) c.args.from ns) hung in
    let last = c.last_before.ensures c.requires.0 c.requires.1 c.requires.3 c.args.item.end c.requires.6 in
    rw (
      c.write_node.ensures.written.size,
      place,
      shown_size c.requires.6 last c.enclose.ensures.enclosed c.requires.8,
    ) c.first_past-rest.ensures.within

pub returns-clause-puts : goal.returns-clause-puts
returns-clause-puts c source tables tables' inside skipped grown can over shows =
    let last = c.last_before.ensures source tables inside c.args.item.end can in
    let hung : c.set_child.new.self.nodes ≡ with_child c.args.brackets.opener (Some c.args.first)
    c.enclose.new.tree.nodes = ap (λ t. t.nodes) c.set_child.ensures in
    let place : c.begin_from.new.tree.nodes ≡ begun_from (Some c.args.first) c.args.from
    (with_child c.args.brackets.opener (Some c.args.first) c.enclose.new.tree.nodes) =
    ap (λ t. t.nodes) c.begin_from.ensures
    ∙ ap (λ (ns : List (Node Item)). begun_from (Some c.args.first) c.args.from ns) hung in
    let rest = c.first_past-rest.result in
    let past = rw c.next.ensures.value at c.first_past-rest.ensures.past in
    let nodes : c.begin_from-2.new.tree.nodes ≡ begun_from rest.next c.args.item.end c.write_node.new.tree.nodes =
    ap (λ t. t.nodes) c.begin_from-2.ensures in
    rw nodes (shown_puts grown can over last c.enclose.ensures.enclosed shows place past c.write_node.ensures.written)
