-- The lookup is opened, and closed with what was found.
use Rattle.std.proofs.Common.{arith}
use Rattle.markdown_brackets.proofs.LookupLemmas.{LooksUp-at_zero, LooksUp-found}
use Rattle.markdown_brackets.proofs.look_up.look_up_label.Goals as goal

pub returns-then-lookup-eq0-clause-looks_up : goal.returns-then-lookup-eq0-clause-looks_up
returns-then-lookup-eq0-clause-looks_up g c = rw (← c.lookup.view_is) (LooksUp-at_zero _ _ _ c.if-lookup-eq0.true)

pub returns-clause-looks_up : goal.returns-clause-looks_up
returns-clause-looks_up g c =
    rw (← c.lookup.view_is)
    (LooksUp-found _ _ _ _ _ (omega (arith, c.if-lookup-eq0.false)) c.limit_after-lookup-inside.ensures
    c.in_ok-target.ensures.finds)
