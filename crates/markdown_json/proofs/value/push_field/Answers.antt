-- The lead, and the value.
use Rattle.std.proofs.lemmas.Result.{err_from_is_err_and, on_err_weaker}
use Rattle.markdown_json.proofs.JsonPartsLemmas.{prefix-earlier, prefix-later}
use Rattle.markdown_json.proofs.value.push_field.Goals as goal

pub returns-in_err-push_raw-clause-err : goal.returns-in_err-push_raw-clause-err
returns-in_err-push_raw-clause-err g c =
    let p = err_from_is_err_and c.from_residual.result c.from_residual.ensures.1 in
    rw p.1 (prefix-earlier _ _ _ _ c.in_err-push_raw.ensures.err)

pub returns-clause-err : goal.returns-clause-err
returns-clause-err g c =
    on_err_weaker c.push.result (λ f. prefix-later _ _ _ _ _ c.in_ok-push_raw.ensures.ok f) c.push.ensures.err
