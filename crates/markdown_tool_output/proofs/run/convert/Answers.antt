-- What was done to files: the output that was to be written is that of the texts, and before it files were only read.
use Rattle.std.proofs.Common.{inl, inr, map, string_bytes}
use Rattle.std.proofs.lemmas.Result.{err_from_is_err_and}
use Rattle.markdown_tool_output.proofs.ConversionLemmas.{converts_by}
use Rattle.markdown_tool_output.proofs.StepsLemmas.{files_alone}
use Rattle.markdown_tool_output.proofs.run.convert.Goals as goal

pub returns-in_err-output-clause-err : goal.returns-in_err-output-clause-err
returns-in_err-output-clause-err g c =
    let p = err_from_is_err_and c.from_residual-in_err-output.result c.from_residual-in_err-output.ensures.1 in
    rw p.1
    (inr (files_alone c.args.request.now.lossy _ _ (map string_bytes c.as_slice.result.now)
    (map string_bytes c.in_ok-texts.texts.items) c.in_ok-texts.ensures.read))

pub returns-in-Some-clause-err : goal.returns-in-Some-clause-err
returns-in-Some-clause-err g c =
    inr (files_alone c.args.request.now.lossy _ _ (map string_bytes c.as_slice.result.now)
    (map string_bytes c.in_ok-texts.texts.items) c.in_ok-texts.ensures.read)

pub returns-in-Ok-clause-ok : goal.returns-in-Ok-clause-ok
returns-in-Ok-clause-ok g c =
    converts_by c.args.request.now _ _ _ c.as_slice.result.now c.in_ok-texts.texts.items c.as_slice-2.result.now
    (string_bytes c.in_ok-output.output) _ _ c.as_slice.ensures.value c.as_slice-2.ensures.value
    c.as_str-2.ensures.value c.as_str-3.ensures.value c.in_ok-output.ensures.output c.in_ok-texts.ensures.read
    (rw c.as_str.ensures.value at c.in_default.ensures) c.write.ensures.tried

pub returns-clause-err : goal.returns-clause-err
returns-clause-err g c =
    inl (converts_by c.args.request.now _ _ _ c.as_slice.result.now c.in_ok-texts.texts.items c.as_slice-2.result.now
    (string_bytes c.in_ok-output.output) _ _ c.as_slice.ensures.value c.as_slice-2.ensures.value
    c.as_str-2.ensures.value c.as_str-3.ensures.value c.in_ok-output.ensures.output c.in_ok-texts.ensures.read
    (rw c.as_str.ensures.value at c.in_default.ensures) c.write.ensures.tried)
