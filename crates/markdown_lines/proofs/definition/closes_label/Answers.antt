-- A byte closes the label, or it goes on.
use Rattle.std.proofs.Common.{◌≡◌, ◌∙◌, ◌+◌, sym, arith, true, false, subst, Bool}
use Rattle.markdown_lines.proofs.HeldLabelsLemmas.{IsThrough, decided_here, through_all, through_more, through_none}
use Rattle.markdown_lines.proofs.definition.closes_label.Goals as goal

pub loop-at-init : goal.loop-at-init
loop-at-init c = through_none c.args.content.now

pub returns-then-is_bare-clause-closed : goal.returns-then-is_bare-clause-closed
returns-then-is_bare-clause-closed c =
    λ (closes : true ≡ true).
    decided_here c.args.content.now c.loop-at.at c.loop-at.escaped (omega (arith, c.loop-at-test.true))
    c.loop-at.invariant.goes (sym c.is_bare.ensures ∙ c.if-is_bare.true)

pub loop-at-preserved : goal.loop-at-preserved
loop-at-preserved c =
    subst (λ (e : Bool). IsThrough c.args.content.now (c.loop-at.at + 1) e) (sym c.is_bare-escaped.ensures)
    (through_more c.args.content.now c.loop-at.at c.loop-at.escaped (omega (arith, c.loop-at-test.true))
    c.loop-at.invariant (sym c.is_bare.ensures ∙ c.if-is_bare.false))

pub returns-clause-open : goal.returns-clause-open
returns-clause-open c =
    λ (closes : false ≡ false).
    through_all c.args.content.now c.loop-at.at c.loop-at.escaped (omega (arith, c.loop-at-test.false))
    c.loop-at.invariant
