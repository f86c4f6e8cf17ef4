-- Where no definition is found, the callback is asked.
use Rattle.std.proofs.Common.{sym}
use Rattle.markdown_brackets.proofs.look_up.find_target.Goals as goal

pub returns-in-None-clause-finds : goal.returns-in-None-clause-finds
returns-in-None-clause-finds g c =
    let found = rw (c.in-None.is, c.as_str.ensures) at c.in_ok-definition.ensures.found in
    rw (sym found) c.ask.ensures.answered
