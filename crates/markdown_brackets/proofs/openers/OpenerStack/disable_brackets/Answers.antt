use Rattle.markdown_brackets.proofs.OpenerLemmas.{waiting_all}
use Rattle.markdown_brackets.proofs.openers.OpenerStack.disable_brackets.Goals as goal

pub returns : goal.returns
returns c =
    rw (c.len-self-inside.ensures, c.self.inside.openers.ok.0, ← c.self.view_is)
    (waiting_all c.self.inside.live_from c.self.inside.openers.items)
