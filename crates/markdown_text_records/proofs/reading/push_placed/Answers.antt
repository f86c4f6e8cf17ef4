-- The questions are written, and then the event.
use Rattle.markdown_text_records.proofs.RecordingLemmas.{placed_cut, placed_then}
use Rattle.markdown_text_records.proofs.reading.push_placed.Goals as goal

pub returns-in_err-push_asked : goal.returns-in_err-push_asked
returns-in_err-push_asked c =
    placed_cut c.args.event.now c.args.range.now c.args.callback c.args.first c.from_residual.ensures.1
    c.in_err-push_asked.ensures

pub returns : goal.returns
returns c =
    placed_then c.args.event.now c.args.range.now c.args.callback c.args.first c.push_event.result
    c.in_ok-push_asked.ensures c.push_event.ensures
