-- Where writing stops, memory was refused or the first events are too deep.
use Rattle.std.proofs.lemmas.Result.{err_from_is_err_and}
use Rattle.markdown_text_records.proofs.RecordsHtmlLemmas.{html_faults}
use Rattle.markdown_text_records.proofs.html.html_of_records.Goals as goal

pub returns-in_err-push_html : goal.returns-in_err-push_html
returns-in_err-push_html c =
    let p = err_from_is_err_and c.from_residual-in_err-push_html.result c.from_residual-in_err-push_html.ensures.1 in
    rw (p.1, p.2) (html_faults (record {
      contents = _;
      said = c.in_ok-recorded.ensures;
      left = c.events-events.ensures.events;
      gives = c.the_events_left_are_returned.ensures;
    }) _ _ _ c.in_err-push_html.ensures.err)
