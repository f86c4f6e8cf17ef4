use Rattle.markdown_brackets.proofs.OpenerLemmas.{waiting_live}
use Rattle.markdown_brackets.proofs.openers.OpenerStack.push.Goals as goal

pub returns-clause-put : goal.returns-clause-put
returns-clause-put c =
    rw (c.in_ok-push.ensures.items, ← c.self.view_is)
    (waiting_live c.self.inside.live_from c.self.inside.openers.items c.args.opener c.self.invariant)
