-- Each name is marked as it is met, and one that is met again has its mark.
use Rattle.std.proofs.Common.{◌+◌, ◌<◌, ◌∙◌, ap, arith, drop, length, refl, sym}
use Rattle.std.proofs.lemmas.List.{drop_all}
use Rattle.std.proofs.lemmas.List.Elements.{All-from_recursion}
use Rattle.std.proofs.lemmas.Result.{IfOk-from_err}
use Rattle.markdown_base.specs.BlockTree.{no_item}
use Rattle.markdown_blocks.specs.NodeRules.{names_of, part_named}
use Rattle.markdown_blocks.proofs.NameLemmas.{fresh_first, fresh_more, fresh_never, names_of-none, names_of-some}
use Rattle.markdown_blocks.proofs.named.NamedPart.named_once.Goals.{in-Some+else-not-insert, in_default}
use Rattle.markdown_blocks.proofs.named.NamedPart.named_once.Goals as goal

pub names-init : goal.names-init
names-init c = fresh_first c.args.size (names_of c.args.self c.args.tree.now.nodes c.args.order.now)
    c.in_ok-seen.seen.items
    (c.in_ok-seen.ensures.items_if_clones_equal (λ y e. e))

pub returns-in_err-seen : goal.returns-in_err-seen
returns-in_err-seen c = IfOk-from_err _ _ c.from_residual.ensures.0

pub item-requires : goal.item-requires
item-requires c =
    All-from_recursion (λ ix. ix < length c.args.tree.now.nodes) c.args.order.now c.requires c.names.ix-index 0
    c.names-test.true

pub returns-then-not-insert : goal.returns-then-not-insert
returns-then-not-insert c =
    let nodes = c.args.tree.now.nodes in
    let order = c.args.order.now in
    let part = c.args.self in
    let named = sym (c.number.ensures ∙ ap (λ i. part_named part i.body) (c.item.ensures no_item)) ∙ c.in-Some.is in
    let first = names_of-some part nodes order c.names.ix-index c.in-Some.name c.names-test.true named in (
      λ h. cc h,
      λ once. absurd (fresh_never c.args.size (names_of part nodes order) c.names.seen.items c.in-Some.name
          (names_of part nodes (drop (c.names.ix-index + 1) order)) (rw first at c.names.invariant)
          (λ h. let new = c.if-not-insert.ensures.unseen.1 h in cc new) once),
    )

pub names-preserved : goal.names-preserved
names-preserved c =
    let nodes = c.args.tree.now.nodes in
    let order = c.args.order.now in
    let part = c.args.self in
    let number = sym (c.number.ensures ∙ ap (λ i. part_named part i.body) (c.item.ensures no_item)) in
    let rest = names_of part nodes (drop (c.names.ix-index + 1) order) in
    elim c.match-number.branch [
      | in-Some+else-not-insert w ↦
          let name = w.in-Some.name in
          let first = names_of-some part nodes order c.names.ix-index name c.names-test.true (number ∙ w.in-Some.is) in
          fresh_more c.args.size (names_of part nodes order) c.names.seen.items c.match-number.seen.items name rest
          (rw first at c.names.invariant) (w.if-not-insert.ensures.unseen.0 refl)
          (ap (λ v. v.items) w.seen-is ∙ w.if-not-insert.ensures.inserted)
      | in_default w ↦
          let none = names_of-none part nodes order c.names.ix-index c.names-test.true (number ∙ w.in_default.is) in
          rw w.seen-is (rw none at c.names.invariant)
    ]

pub returns : goal.returns
returns c =
    let none = drop_all c.names.ix-index c.args.order.now (omega arith) in
    (λ _. (rw none at c.names.invariant).makes tt, λ _. refl)
