use Rattle.markdown_out.specs.MergeState.{stream_state}
use Rattle.markdown_out.proofs.RenderedMergeLemmas.{deep-merged, rendered-merged, stopped-merged}
use Rattle.markdown_out.proofs.laws.html_of_a_merge_is_that_of_the_merged_events.Goals as goal

pub returns-clause-whole : goal.returns-clause-whole
returns-clause-whole g c ends begun old new rendered =
    rendered-merged g.I.Iterator.next_gives g.I.Iterator.can_next g.I.Iterator.remaining stream_state c.args.merge.now
    ends old new begun
    rendered

pub returns-clause-error : goal.returns-clause-error
returns-clause-error g c ends begun old new fault stopped =
    stopped-merged g.I.Iterator.next_gives g.I.Iterator.can_next g.I.Iterator.remaining stream_state c.args.merge.now
    ends old new begun
    fault stopped

pub returns-clause-deep : goal.returns-clause-deep
returns-clause-deep g c ends begun old new deep =
    deep-merged g.I.Iterator.next_gives g.I.Iterator.can_next g.I.Iterator.remaining stream_state c.args.merge.now ends
    old new begun deep
