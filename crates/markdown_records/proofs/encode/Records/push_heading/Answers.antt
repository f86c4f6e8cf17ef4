-- The record of a heading, its classes and its attributes.
use Rattle.std.proofs.Common.{Err, Ok}
use Rattle.markdown_records.proofs.WritesLemmas.{refused_first, writes_then}
use Rattle.markdown_records.proofs.encode.Records.push_heading.Goals as goal

pub returns-in_err-push_classes : goal.returns-in_err-push_classes
returns-in_err-push_classes c =
    let w = rw (c.in_ok-parts.ensures, c.id_text.ensures, c.level_number.ensures) at c.in_ok-push.ensures in
    refused_first _ c.from_residual-in_err-push_classes.ensures.1
    (writes_then (Err c.in_err-push_classes.field-0.0) w c.in_err-push_classes.ensures)

pub returns : goal.returns
returns c =
    let w = rw (c.in_ok-parts.ensures, c.id_text.ensures, c.level_number.ensures) at c.in_ok-push.ensures in
    writes_then c.push_attributes.result (writes_then (Ok tt) w c.in_ok-push_classes.ensures) c.push_attributes.ensures
