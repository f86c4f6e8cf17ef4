use Rattle.markdown_out.specs.MergeNext.{formed_view}
use Rattle.markdown_out.specs.MergeState.{offset_state}
use Rattle.markdown_out.specs.EventRanges.{with_range, through_ranges}
use Rattle.markdown_out.specs.TextForms.{boxed_through}
use Rattle.markdown_out.proofs.DrainedMergeLemmas.{gives_the_merge}
use Rattle.markdown_out.proofs.laws.a_stream_with_offsets_gives_the_merge.Goals as goal

pub returns : goal.returns
returns g c ends new =
    gives_the_merge (boxed_through through_ranges)
    (formed_view with_range) g.I.Iterator.next_gives g.I.Iterator.can_next
    g.I.Iterator.remaining offset_state
    c.args.merge.now ends new
