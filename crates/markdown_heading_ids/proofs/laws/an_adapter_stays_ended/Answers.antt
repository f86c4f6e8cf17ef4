use Rattle.markdown_heading_ids.specs.HeadingIdsState.{ids_state}
use Rattle.markdown_heading_ids.proofs.HeadingIdsRunLemmas.{ids_can_merge, ids_stay_ended}
use Rattle.markdown_heading_ids.proofs.laws.an_adapter_stays_ended.Goals as goal

pub returns-clause-stays_ended : goal.returns-clause-stays_ended
returns-clause-stays_ended g c = ids_stay_ended g.I.Iterator.next_gives ids_state c.args.ids.now

pub returns-clause-merges : goal.returns-clause-merges
returns-clause-merges g c may =
    ids_can_merge g.I.Iterator.next_gives ids_state g.I.Iterator.can_next g.I.Iterator.remaining c.args.ids.now may
