-- The brackets, the first value, and the others.
use Rattle.std.proofs.lemmas.Result.{err_from_is_err_and, on_err_weaker}
use Rattle.markdown_json.proofs.JsonPartsLemmas.{prefix-earlier, prefix-later}
use Rattle.markdown_json.proofs.array.push_array.Goals as goal

pub returns-in_err-push_field-clause-err : goal.returns-in_err-push_field-clause-err
returns-in_err-push_field-clause-err g c =
    let p = err_from_is_err_and c.from_residual.result c.from_residual.ensures.1 in
    rw (p.1, c.in-Some.ensures.cases.0) (prefix-earlier _ _ _ _ c.in_err-push_field.ensures.err)

pub returns-in_err-push_others-clause-err : goal.returns-in_err-push_others-clause-err
returns-in_err-push_others-clause-err g c =
    let p = err_from_is_err_and c.from_residual-in_err-push_others.result c.from_residual-in_err-push_others.ensures.1
    in
    rw (p.1, c.in-Some.ensures.cases.0) (prefix-later _ _ _ _ _ c.in_ok-push_field.ensures.ok
    (prefix-earlier _ _ _ _ c.in_err-push_others.ensures.err))

pub returns-clause-err : goal.returns-clause-err
returns-clause-err g c =
    rw (c.in-Some.ensures.cases.0)
    (on_err_weaker c.push_raw-2.result (λ f. prefix-later _ _ _ _ _ c.in_ok-push_field.ensures.ok
    (prefix-later _ _ _ _ _ c.in_ok-push_others.ensures.ok f)) c.push_raw-2.ensures.err)
