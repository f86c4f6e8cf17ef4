-- The name is written, and then the value, if there is one.
use Rattle.markdown_records.proofs.WritesLemmas.{refused_first, writes_then}
use Rattle.markdown_records.proofs.encode.Records.push_attribute.Goals as goal

pub returns-in_err-push : goal.returns-in_err-push
returns-in_err-push c =
    refused_first _ c.from_residual.ensures.1 (rw (c.part.ensures, c.as_str.ensures) at c.in_err-push.ensures)

pub returns-in-None : goal.returns-in-None
returns-in-None c = rw c.in-None.is (rw (c.part.ensures, c.as_str.ensures) at c.in_ok-push.ensures)

pub returns-in-Some : goal.returns-in-Some
returns-in-Some c =
    rw c.in-Some.is (writes_then c.push-in-Some.result (rw (c.part.ensures, c.as_str.ensures) at c.in_ok-push.ensures)
    (rw (c.part-in-Some.ensures, c.as_str-in-Some.ensures) at c.push-in-Some.ensures))
