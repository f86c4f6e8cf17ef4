-- Elements are written, and then more of them.
use Rattle.std.proofs.lemmas.Result.{err_from_is_err_and}
use Rattle.markdown_text_records.proofs.RecordingLemmas.{cut_later, records_nothing, records_then}
use Rattle.markdown_text_records.proofs.reading.push_reading.Goals as goal

pub walk-init : goal.walk-init
walk-init c = records_nothing

pub returns-in_err-push_next : goal.returns-in_err-push_next
returns-in_err-push_next c =
    let p = err_from_is_err_and c.from_residual.result c.from_residual.ensures.1 in
    rw (p.1, p.2) (cut_later c.walk.invariant c.in_err-push_next.ensures.pushes)

pub walk-preserved : goal.walk-preserved
walk-preserved c = records_then c.walk.invariant (rw c.if-branch.true at c.in_ok-push_next.ensures.pushes)

pub returns : goal.returns
returns c =
    let last = rw c.if-branch.false at c.in_ok-push_next.ensures.pushes in
    (records_then c.walk.invariant last.0, last.1)
