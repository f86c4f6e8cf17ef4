use Rattle.markdown_out.specs.MergeState.{offset_state}
use Rattle.markdown_outline.proofs.DrainedOutlineLemmas.{outline-of_merge}
use Rattle.markdown_outline.proofs.laws.outline_of_a_merge_is_that_of_the_events.Goals as goal

pub returns : goal.returns
returns g c ends begun entries r =
    outline-of_merge g.I.Iterator.next_gives g.I.Iterator.can_next g.I.Iterator.remaining offset_state c.args.merge.now
    ends begun entries r
