use Rattle.markdown_out.specs.MergeNext.{formed_view}
use Rattle.markdown_out.specs.MergeState.{offset_state}
use Rattle.markdown_out.specs.EventRanges.{with_range, through_ranges}
use Rattle.markdown_out.specs.TextForms.{boxed_through}
use Rattle.markdown_out.proofs.EndedMergeLemmas.{merge_stays_ended, merge_can_merge}
use Rattle.markdown_out.proofs.laws.a_stream_with_offsets_can_be_merged.Goals as goal

pub returns-clause-stays_ended : goal.returns-clause-stays_ended
returns-clause-stays_ended g c ends =
    merge_stays_ended (boxed_through through_ranges)
    (formed_view with_range) g.I.Iterator.next_gives g.I.Iterator.can_next
    g.I.Iterator.remaining
    offset_state
    c.args.merge.now ends

pub returns-clause-merges : goal.returns-clause-merges
returns-clause-merges g c can =
    merge_can_merge (boxed_through through_ranges)
    (formed_view with_range) g.I.Iterator.next_gives g.I.Iterator.can_next
    g.I.Iterator.remaining
    offset_state
    c.args.merge.now can
