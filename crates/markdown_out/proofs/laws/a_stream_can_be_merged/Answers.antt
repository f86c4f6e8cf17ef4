use Rattle.markdown_out.specs.MergeNext.{formed_view}
use Rattle.markdown_out.specs.MergeState.{stream_state}
use Rattle.markdown_out.specs.EventRanges.{bare, nowhere}
use Rattle.markdown_out.specs.TextForms.{boxed_through}
use Rattle.markdown_out.proofs.EndedMergeLemmas.{merge_stays_ended, merge_can_merge}
use Rattle.markdown_out.proofs.laws.a_stream_can_be_merged.Goals as goal

pub returns-clause-stays_ended : goal.returns-clause-stays_ended
returns-clause-stays_ended g c ends =
    merge_stays_ended (boxed_through nowhere) (formed_view bare) g.I.Iterator.next_gives g.I.Iterator.can_next
    g.I.Iterator.remaining
    stream_state
    c.args.merge.now ends

pub returns-clause-merges : goal.returns-clause-merges
returns-clause-merges g c can =
    merge_can_merge (boxed_through nowhere) (formed_view bare) g.I.Iterator.next_gives g.I.Iterator.can_next
    g.I.Iterator.remaining
    stream_state
    c.args.merge.now can
