-- There is no label, or that of a footnote, or that of a link.
use Rattle.std.proofs.Common.{[], refl}
use Rattle.markdown_base.specs.BlockTree.{no_item}
use Rattle.markdown_brackets.proofs.ComesToLemmas.{comes_to_text}
use Rattle.markdown_brackets.proofs.WrittenLemmas.{ok_map}
use Rattle.markdown_brackets.specs.StandsAt.{bracket_context_by}
use Rattle.markdown_brackets.proofs.tries.try_own.Goals as goal

pub returns-in_default-clause-comes : goal.returns-in_default-clause-comes
returns-in_default-clause-comes g c spent skipped bodies o opener start =
    let at = c.args.at.now in
    let own = rw (c.item-3.ensures no_item) at c.in_ok-label.ensures in
    let w = bracket_context_by at.place.now skipped bodies c.args.lookup.now in
    rw (← own, c.in_default.is) (comes_to_text g.F.BrokenLinkCallback.answers w c.args.lookup.now spent)

pub returns-then-label-clause-comes : goal.returns-then-label-clause-comes
returns-then-label-clause-comes g c =
    let own = rw (c.item-3.ensures no_item) at c.in_ok-label.ensures in
    ok_map c.find_footnote.result _ _ c.find_footnote.ensures.comes (λ found comes spent skipped bodies o opener start.
    rw (← own, c.in-Some.is, c.if-label.true) (comes spent skipped bodies o opener start))

pub returns-clause-comes : goal.returns-clause-comes
returns-clause-comes g c =
    let own = rw (c.item-3.ensures no_item) at c.in_ok-label.ensures in
    ok_map c.find_reference.result _ _ c.find_reference.ensures.comes
    (λ found comes spent skipped bodies o opener start.
    rw (← own, c.in-Some.is, c.if-label.false)
    (rw (c.item-2.ensures no_item) at (comes [] spent spent (λ end. refl) skipped bodies o opener start)))
