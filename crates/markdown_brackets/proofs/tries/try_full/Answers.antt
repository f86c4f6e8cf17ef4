-- A `]` ends the label, or none does.
use Rattle.std.proofs.Common.{[], ◌∷◌, sym, ◌∙◌}
use Rattle.markdown_brackets.proofs.ComesToLemmas.{comes_to_text, spends_end}
use Rattle.markdown_brackets.proofs.WrittenLemmas.{ok_map}
use Rattle.markdown_brackets.proofs.tries.try_full.Goals as goal

pub returns-then-not-reaches_closer-clause-comes : goal.returns-then-not-reaches_closer-clause-comes
returns-then-not-reaches_closer-clause-comes g c skipped bodies o opener start =
    let none = rw c.next.ensures.value at (sym c.reaches_closer.ensures ∙ c.if-not-reaches_closer.true) in
    rw none (comes_to_text g.F.BrokenLinkCallback.answers _ c.args.lookup.now c.args.spent.now)

pub returns-clause-comes : goal.returns-clause-comes
returns-clause-comes g c =
    let end = c.args.about.span.end in
    let one = rw c.next.ensures.value at (sym c.reaches_closer.ensures ∙ c.if-not-reaches_closer.false) in
    ok_map c.find_reference.result _ _ c.find_reference.ensures.comes (λ found comes skipped bodies o opener start.
    rw one (rw c.requires.full.kind_is at (comes (end ∷ []) c.args.spent.now c.insert.new.self
    (spends_end end c.args.spent.now c.insert.new.self c.in_ok-insert.ensures.put) skipped bodies o opener start)))
