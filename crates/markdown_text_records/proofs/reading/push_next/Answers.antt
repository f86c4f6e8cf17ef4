-- The questions on the way to an event, and the event, are written.
use Rattle.std.proofs.lemmas.Result.{err_from_is_err_and}
use Rattle.markdown_text_records.proofs.RecordingLemmas.{item_cut, item_written, records_end}
use Rattle.markdown_text_records.proofs.reading.push_next.Goals as goal

pub returns-in_default-clause-pushes : goal.returns-in_default-clause-pushes
returns-in_default-clause-pushes c = records_end c.in_default.ensures.steps

pub returns-in_err-pushed-clause-pushes : goal.returns-in_err-pushed-clause-pushes
returns-in_err-pushed-clause-pushes c =
    let p = err_from_is_err_and c.from_residual-in_err-pushed.result c.from_residual-in_err-pushed.ensures.1 in
    rw (p.1, p.2) (item_cut c.in_ok-event.event c.in_ok-event.range (rw c.in_ok-event.was at c.in-Some.ensures.steps)
    c.callback.result c.callback-2.result c.callback.ensures c.callback-2.ensures c.asked_count-first.result
    c.asked_count-first.ensures c.in_err-pushed.ensures)

pub returns-clause-pushes : goal.returns-clause-pushes
returns-clause-pushes c =
    item_written c.in_ok-event.event c.in_ok-event.range (rw c.in_ok-event.was at c.in-Some.ensures.steps)
    c.callback.result c.callback-2.result c.callback.ensures c.callback-2.ensures c.asked_count-first.result
    c.asked_count-first.ensures c.in_ok-pushed.ensures
