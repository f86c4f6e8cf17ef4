-- Nothing is read past the block's end; otherwise there is a tail, or a reference.
use Rattle.std.proofs.Common.{◌-◌, ◌≤◌, sym, subst, arith}
use Rattle.markdown_base.specs.BlockTree.{item_at, no_item}
use Rattle.markdown_document.specs.ChainRest.{start_of}
use Rattle.markdown_scan.specs.Entity.{entity_names}
use Rattle.markdown_brackets.specs.StandsAt.{could_be_at, bracket_context_by}
use Rattle.markdown_brackets.specs.WrittenView.{reference_at, tail_ahead}
use Rattle.markdown_brackets.proofs.ComesToLemmas.{comes_to_tail, comes_to_text, found_as}
use Rattle.markdown_brackets.proofs.TailTitleLemmas.{tail_wider}
use Rattle.markdown_brackets.proofs.WrittenLemmas.{nothing_past_block, ok_map, other_written}
use Rattle.markdown_brackets.proofs.tries.try_live.Goals as goal

pub returns-then-item-at-clause-comes : goal.returns-then-item-at-clause-comes
returns-then-item-at-clause-comes g c skipped bodies o opener start =
    let at = c.args.at.now in
    let nodes = at.tree.now.nodes in
    let w = bracket_context_by at.place.now skipped bodies c.args.lookup.now in
    let past = rw (c.item.ensures no_item) at c.if-item-at.true in
    found_as (sym (nothing_past_block nodes at.place.now (g.R.LineRule.skipped at.rule.now) at.node w o
    (could_be_at nodes at.node c.args.spent.now) ((item_at nodes c.args.opener.node).end - 1) past))
    (comes_to_text g.F.BrokenLinkCallback.answers w c.args.lookup.now c.args.spent.now)

pub returns-in-Some-clause-comes : goal.returns-in-Some-clause-comes
returns-in-Some-clause-comes g c skipped bodies o opener start =
    let at = c.args.at.now in
    let nodes = at.tree.now.nodes in
    let place = at.place.now in
    let rule = g.R.LineRule.skipped at.rule.now in
    let w = bracket_context_by place skipped bodies c.args.lookup.now in
    let low : start_of o.opener ≤ (item_at nodes at.node).end =
    subst (λ n. n ≤ (item_at nodes at.node).end) start
    (omega (arith, c.requires.ready.opens, c.requires.ready.reads.order)) in
    comes_to_tail g.F.BrokenLinkCallback.answers w c.args.lookup.now c.args.spent.now o
    (reference_at nodes place rule at.node w o (could_be_at nodes at.node c.args.spent.now)
    ((item_at nodes c.args.opener.node).end - 1))
    (tail_ahead nodes place rule at.node) c.in-Some.tail c.inline_link.result
    (rw c.in-Some.is at c.in_ok-tail.ensures.value)
    (λ t is. c.inline_link.ensures w o t opener is
    (tail_wider place.text.now (item_at nodes at.node).end (start_of o.opener) c.in-Some.tail low
    (rw c.in-Some.is at c.in_ok-tail.ensures.from)))

pub returns-in-None-clause-comes : goal.returns-in-None-clause-comes
returns-in-None-clause-comes g c =
    let at = c.args.at.now in
    let nodes = at.tree.now.nodes in
    let place = at.place.now in
    let rule = g.R.LineRule.skipped at.rule.now in
    ok_map c.try_reference.result _ _ c.try_reference.ensures.comes (λ found comes skipped bodies o opener start.
    let w = bracket_context_by place skipped bodies c.args.lookup.now in
    found_as (other_written (entity_names place.syntax) place.in_table o
    (reference_at nodes place rule at.node w o (could_be_at nodes at.node c.args.spent.now)
    ((item_at nodes c.args.opener.node).end - 1))
    (tail_ahead nodes place rule at.node) (rw c.in-None.is at c.in_ok-tail.ensures.value))
    (comes skipped bodies o opener start))
