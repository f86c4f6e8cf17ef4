-- The event, and the range after it.
use Rattle.std.proofs.Common.{◌≡◌}
use Rattle.std.specs.Fmt.{decimal}
use Rattle.std.proofs.lemmas.Result.{err_from_is_err_and, on_err_weaker, on_ok_weaker}
use Rattle.markdown_base.specs.Event.{event_view}
use Rattle.markdown_json.proofs.JsonPartsLemmas.{line_appended, prefix-earlier, prefix-later}
use Rattle.markdown_json.proofs.push.push_line_start.Goals as goal

pub returns-in_err-push_field-clause-err : goal.returns-in_err-push_field-clause-err
returns-in_err-push_field-clause-err c =
    let p = err_from_is_err_and c.from_residual.result c.from_residual.ensures.1 in
    rw p.1 (prefix-earlier _ _ _ _ c.in_err-push_field.ensures.err)

pub returns-clause-ok : goal.returns-clause-ok
returns-clause-ok c =
    let first : c.format.result.now ≡ decimal c.args.start = c.format.ensures.text in
    let last : c.format-2.result.now ≡ decimal c.args.end = c.format-2.ensures.text in
    on_ok_weaker c.push_range.result (λ done. line_appended _ _ _ (event_view c.args.event.now) c.args.start c.args.end
    c.in_ok-push_field.ensures.ok done) (rw (first, last) at c.push_range.ensures.ok)

pub returns-clause-err : goal.returns-clause-err
returns-clause-err c =
    let first : c.format.result.now ≡ decimal c.args.start = c.format.ensures.text in
    let last : c.format-2.result.now ≡ decimal c.args.end = c.format-2.ensures.text in
    on_err_weaker c.push_range.result (λ f. prefix-later _ _ _ _ _ c.in_ok-push_field.ensures.ok f)
    (rw (first, last) at c.push_range.ensures.err)
