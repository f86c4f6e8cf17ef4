-- The brackets, the name and the value.
use Rattle.std.proofs.Common.{subst, sym}
use Rattle.std.proofs.lemmas.Result.{err_from_is_err_and, on_err_weaker, on_ok_weaker}
use Rattle.markdown_out.specs.ByteLists.{AppendsPrefix}
use Rattle.markdown_json.proofs.JsonPartsLemmas.{attribute_appended, attribute_parts, prefix-earlier, prefix-later}
use Rattle.markdown_json.proofs.heading.push_attribute.Goals as goal

pub returns-in_err-push_field-clause-err : goal.returns-in_err-push_field-clause-err
returns-in_err-push_field-clause-err c =
    let p = err_from_is_err_and c.from_residual.result c.from_residual.ensures.1 in
    rw p.1 (subst (AppendsPrefix _ _) (sym (attribute_parts c.args.attribute.now))
    (prefix-earlier _ _ _ _ c.in_err-push_field.ensures.err))

pub returns-in_err-push_field-2-clause-err : goal.returns-in_err-push_field-2-clause-err
returns-in_err-push_field-2-clause-err c =
    let p = err_from_is_err_and c.from_residual-in_err-push_field-2.result c.from_residual-in_err-push_field-2.ensures.1
    in
    rw p.1 (subst (AppendsPrefix _ _) (sym (attribute_parts c.args.attribute.now))
    (prefix-later _ _ _ _ _ c.in_ok-push_field.ensures.ok
    (prefix-earlier _ _ _ _ c.in_err-push_field-2.ensures.err)))

pub returns-clause-err : goal.returns-clause-err
returns-clause-err c =
    on_err_weaker c.push_raw.result
    (λ f. subst (AppendsPrefix _ _) (sym (attribute_parts c.args.attribute.now))
    (prefix-later _ _ _ _ _ c.in_ok-push_field.ensures.ok
    (prefix-later _ _ _ _ _ c.in_ok-push_field-2.ensures.ok f))) c.push_raw.ensures.err

pub returns-clause-ok : goal.returns-clause-ok
returns-clause-ok c =
    on_ok_weaker c.push_raw.result (λ end. attribute_appended _ _ _ _ c.args.attribute.now c.in_ok-push_field.ensures.ok
    c.in_ok-push_field-2.ensures.ok end) c.push_raw.ensures.ok
