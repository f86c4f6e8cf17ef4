-- The quotes, and what is between them.
use Rattle.std.proofs.lemmas.Result.{err_from_is_err_and, on_err_weaker}
use Rattle.markdown_json.proofs.JsonPartsLemmas.{prefix-earlier, prefix-later}
use Rattle.markdown_json.proofs.pieces.push_string.Goals as goal

pub returns-in_err-push_raw-clause-err : goal.returns-in_err-push_raw-clause-err
returns-in_err-push_raw-clause-err c =
    let p = err_from_is_err_and c.from_residual.result c.from_residual.ensures.1 in
    rw p.1 (prefix-earlier _ _ _ _ c.in_err-push_raw.ensures.err)

pub returns-in_err-push_escaped-clause-err : goal.returns-in_err-push_escaped-clause-err
returns-in_err-push_escaped-clause-err c =
    let p = err_from_is_err_and c.from_residual-in_err-push_escaped.result c.from_residual-in_err-push_escaped.ensures.1
    in
    rw p.1 (prefix-later _ _ _ _ _ c.in_ok-push_raw.ensures.ok
    (prefix-earlier _ _ _ _ c.in_err-push_escaped.ensures.err))

pub returns-clause-err : goal.returns-clause-err
returns-clause-err c =
    on_err_weaker c.push_raw-2.result (λ f. prefix-later _ _ _ _ _ c.in_ok-push_raw.ensures.ok
    (prefix-later _ _ _ _ _ c.in_ok-push_escaped.ensures.ok f)) c.push_raw-2.ensures.err
