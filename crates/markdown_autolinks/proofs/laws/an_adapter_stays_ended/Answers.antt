use Rattle.markdown_autolinks.specs.AutolinksState.{linked_state}
use Rattle.markdown_autolinks.proofs.LinkedRunLemmas.{links_can_merge, links_stay_ended}
use Rattle.markdown_autolinks.proofs.laws.an_adapter_stays_ended.Goals as goal

pub returns-clause-stays_ended : goal.returns-clause-stays_ended
returns-clause-stays_ended g c = links_stay_ended g.I.Iterator.next_gives linked_state c.args.links.now

pub returns-clause-merges : goal.returns-clause-merges
returns-clause-merges g c may =
    links_can_merge g.I.Iterator.next_gives linked_state g.I.Iterator.can_next g.I.Iterator.remaining c.args.links.now
    may
