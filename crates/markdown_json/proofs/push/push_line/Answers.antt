-- The line but for its end, and the end after it.
use Rattle.std.proofs.lemmas.Result.{err_from_is_err_and, on_err_weaker}
use Rattle.markdown_json.proofs.JsonPartsLemmas.{prefix-earlier, prefix-later}
use Rattle.markdown_json.proofs.push.push_line.Goals as goal

pub returns-in_err-push_line_start-clause-err : goal.returns-in_err-push_line_start-clause-err
returns-in_err-push_line_start-clause-err c =
    let p = err_from_is_err_and c.from_residual.result c.from_residual.ensures.1 in
    rw p.1 (prefix-earlier _ _ _ _ c.in_err-push_line_start.ensures.err)

pub returns-clause-err : goal.returns-clause-err
returns-clause-err c =
    on_err_weaker c.push_raw.result (λ f. prefix-later _ _ _ _ _ c.in_ok-push_line_start.ensures.ok f)
    c.push_raw.ensures.err
