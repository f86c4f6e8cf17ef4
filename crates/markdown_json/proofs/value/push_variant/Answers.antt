-- The name, the value, and the brace that closes it.
use Rattle.std.proofs.lemmas.Result.{err_from_is_err_and, on_err_weaker}
use Rattle.markdown_json.proofs.JsonPartsLemmas.{prefix-earlier, prefix-later}
use Rattle.markdown_json.proofs.value.push_variant.Goals as goal

pub returns-in_err-push_pieces-clause-err : goal.returns-in_err-push_pieces-clause-err
returns-in_err-push_pieces-clause-err g c =
    let p = err_from_is_err_and c.from_residual.result c.from_residual.ensures.1 in
    rw p.1 (prefix-earlier _ _ _ _ c.in_err-push_pieces.ensures.err)

pub returns-in_err-push_field-clause-err : goal.returns-in_err-push_field-clause-err
returns-in_err-push_field-clause-err g c =
    let p = err_from_is_err_and c.from_residual-in_err-push_field.result c.from_residual-in_err-push_field.ensures.1 in
    rw p.1 (prefix-later _ _ _ _ _ c.in_ok-push_pieces.ensures.ok
    (prefix-earlier _ _ _ _ c.in_err-push_field.ensures.err))

pub returns-clause-err : goal.returns-clause-err
returns-clause-err g c =
    on_err_weaker c.push_raw.result (λ f. prefix-later _ _ _ _ _ c.in_ok-push_pieces.ensures.ok
    (prefix-later _ _ _ _ _ c.in_ok-push_field.ensures.ok f)) c.push_raw.ensures.err
