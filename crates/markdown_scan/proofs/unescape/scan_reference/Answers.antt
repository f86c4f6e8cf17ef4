-- The first byte tells what begins there.
use Rattle.std.proofs.Common.{◌∙◌, sym, ap, option_map}
use Rattle.markdown_entities.specs.NamedEntity.{in_utf8}
use Rattle.markdown_scan.proofs.ReferenceLemmas.{escape_none, none_begins}
use Rattle.markdown_scan.proofs.unescape.scan_reference.Goals as goal

pub returns-in_err-length-clause-value : goal.returns-in_err-length-clause-value
returns-in_err-length-clause-value c =
    rw c.from_residual.ensures (escape_none c.args.names c.args.in_table c.args.bytes.now
    (sym c.starts_with.ensures.value ∙ c.if-starts_with.true) c.in_err-length.ensures.value)

pub returns-else-starts_with-2-clause-value : goal.returns-else-starts_with-2-clause-value
returns-else-starts_with-2-clause-value c =
    ap (option_map in_utf8) (sym (none_begins c.args.names c.args.in_table c.args.bytes.now
    (sym c.starts_with.ensures.value ∙ c.if-starts_with.false)
    (sym c.starts_with-else-starts_with.ensures.value ∙ c.if-starts_with-2.false)))
