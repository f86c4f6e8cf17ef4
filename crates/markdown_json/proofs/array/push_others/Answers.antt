use Rattle.std.proofs.Common.{get_or}
use Rattle.std.specs.String.{string_bytes}
use Rattle.std.proofs.lemmas.Result.{err_from_is_err_and}
use Rattle.markdown_out.specs.ByteLists.{AppendsPrefix}
use Rattle.markdown_out.proofs.ByteListsLemmas.{StandsTo-none, StandsTo-all, StandsTo-prefix}
use Rattle.markdown_json.specs.Json.{after_comma}
use Rattle.markdown_json.proofs.array.push_others.Goals as goal

pub loop-value-init : goal.loop-value-init
loop-value-init g c = StandsTo-none _ _ _

pub returns-in_err-push_field-clause-err : goal.returns-in_err-push_field-clause-err
returns-in_err-push_field-clause-err g c =
    let p = err_from_is_err_and c.from_residual.result c.from_residual.ensures.1 in
    let f : AppendsPrefix (string_bytes c.loop-value.s) (string_bytes c.push_field.new.s)
    (after_comma g.T.Value.json (get_or c.args.values.now c.loop-value.value-index c.value-item.result)) =
    rw (← c.value-item.is) c.in_err-push_field.ensures.err in
    rw p.1 (StandsTo-prefix (after_comma g.T.Value.json) _ _ _ _ _ c.value-item.result c.loop-value-test.true f
    c.loop-value.invariant)

pub returns-clause-ok : goal.returns-clause-ok
returns-clause-ok g c = StandsTo-all (after_comma g.T.Value.json) _ _ _ _ c.loop-value-test.false c.loop-value.invariant
