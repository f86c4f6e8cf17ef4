-- The record of a link, its title and its label.
use Rattle.std.proofs.Common.{Ok, ◌+◌}
use Rattle.markdown_records.specs.RecordOf.{span_range}
use Rattle.markdown_records.proofs.WritesLemmas.{refused_first, writes_then}
use Rattle.markdown_records.proofs.encode.Records.push_link.Goals as goal

pub returns-in_err-push : goal.returns-in_err-push
returns-in_err-push c =
    rw (c.parts.ensures (c.args.span.start + c.args.opening) (span_range c.args.span))
    (refused_first _ c.from_residual.ensures.1
    (rw (c.destination_of.ensures, c.link_type_number.ensures) at c.in_err-push.ensures))

pub returns : goal.returns
returns c =
    rw (c.parts.ensures (c.args.span.start + c.args.opening) (span_range c.args.span))
    (writes_then c.push_unless_empty-2.result
    (writes_then (Ok tt) (rw (c.destination_of.ensures, c.link_type_number.ensures) at c.in_ok-push.ensures)
    (rw (c.saturating_sub-title_at.ensures, c.saturating_sub-last.ensures) at c.in_ok-push_unless_empty.ensures))
    (rw (c.saturating_sub-label_at.ensures, c.saturating_sub-last.ensures) at c.push_unless_empty-2.ensures))
