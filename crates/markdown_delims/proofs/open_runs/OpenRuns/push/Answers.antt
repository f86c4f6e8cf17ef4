use Rattle.markdown_delims.proofs.StackSteps.{IsSound-push, openers_of-push}
use Rattle.markdown_delims.proofs.open_runs.OpenRuns.push.Goals as goal

pub invariant_of-self : goal.invariant_of-self
invariant_of-self c = rw c.in_err-push.ensures.items c.self.invariant

pub invariant_of-self-2 : goal.invariant_of-self-2
invariant_of-self-2 c =
    rw c.in_ok-push.ensures.items
    (IsSound-push c.self.inside.stack.items.items c.self.inside.stack.examined c.self.inside.bounds c.self.invariant
    c.args.opener c.requires.some (rw (← c.self.view_is) at c.requires.room))

pub returns-clause-ok : goal.returns-clause-ok
returns-clause-ok c =
    rw (c.in_ok-push.ensures.items, ← c.self.view_is)
    (openers_of-push c.self.inside.stack.items.items c.self.inside.stack.examined
    c.self.inside.bounds c.self.invariant c.args.opener)
