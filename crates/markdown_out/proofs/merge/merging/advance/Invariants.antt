use Rattle.std.proofs.Common.{◌+◌, ◌*◌}
use Rattle.std.specs.Iterator.{size}
use Rattle.markdown_out.specs.MergeNext.{formed_view}
use Rattle.markdown_out.specs.TakenAnswers.{held_count}
use Rattle.markdown_out.proofs.MergeNextLemmas.{IsReading}
use Rattle.markdown_out.proofs.merge.merging.advance.Given as goal

abbrev pub invariant-reading : goal.invariant-reading
invariant-reading g l =
    IsReading g.T.At.EventRange.through (formed_view g.T.MergeItem.parts) g.I.Iterator.next_gives g.I.Iterator.can_next
    g.I.Iterator.remaining
    l.fn.held l.fn.iter l.held l.iter

abbrev pub decreases-reading : goal.decreases-reading
decreases-reading g l = 2 * size (g.I.Iterator.remaining l.iter) + held_count l.held
