-- What is written is of all events, made safe; where writing stops, memory was refused or the first events are too
-- deep.
use Rattle.std.proofs.lemmas.Result.{err_from_is_err_and}
use Rattle.markdown_safe.specs.SafeRules.{rules_view}
use Rattle.markdown_text_records.proofs.RecordsHtmlLemmas.{safe_html_faults, safe_html_written}
use Rattle.markdown_text_records.proofs.html.safe_html_of_records.Goals as goal

pub returns : goal.returns
returns c =
    safe_html_written (record {
      contents = _;
      said = c.in_ok-recorded.ensures;
      left = c.events-events.ensures.events;
      gives = c.the_events_left_are_returned.ensures;
    }) (rules_view c.args.rules) c.with_rules-safe.result c.with_rules-safe.ensures _ _ c.new-html.ensures.bytes
    (rw c.html-form.ensures at c.in_ok-push_html_by.ensures.ok)

pub returns-in_err-push_html_by : goal.returns-in_err-push_html_by
returns-in_err-push_html_by c =
    let p = err_from_is_err_and c.from_residual-in_err-push_html_by.result
    c.from_residual-in_err-push_html_by.ensures.1 in
    rw (p.1, p.2) (safe_html_faults (record {
      contents = _;
      said = c.in_ok-recorded.ensures;
      left = c.events-events.ensures.events;
      gives = c.the_events_left_are_returned.ensures;
    }) (rules_view c.args.rules) c.with_rules-safe.result c.with_rules-safe.ensures _ _ _
    (rw c.html-form.ensures at c.in_err-push_html_by.ensures.err))
