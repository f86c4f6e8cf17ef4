-- An entity has a name, or else a number.
use Rattle.std.proofs.Common.{arith}
use Rattle.std.proofs.lemmas.Str.{length-encode, len_utf8_bounds}
use Rattle.markdown_scan.proofs.ReferenceLemmas.{name_first, none_read}
use Rattle.markdown_scan.proofs.entity.scan_entity.Goals as goal

pub returns-in-Some-clause-value : goal.returns-in-Some-clause-value
returns-in-Some-clause-value c = name_first _ _ _ c.in-Some.ensures.value

pub returns-in_err-length-in-None-clause-value : goal.returns-in_err-length-in-None-clause-value
returns-in_err-length-in-None-clause-value c =
    rw c.from_residual.ensures (none_read _ _ c.in-None.ensures.value c.in_err-length-in-None.ensures.value)

pub returns-in_ok-length-in-None-clause-few : goal.returns-in_ok-length-in-None-clause-few
returns-in_ok-length-in-None-clause-few c =
    let few = len_utf8_bounds c.in_ok-length-in-None.character in
    omega (arith, few.1, length-encode c.in_ok-length-in-None.character)
