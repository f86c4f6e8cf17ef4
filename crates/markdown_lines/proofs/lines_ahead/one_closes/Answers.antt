-- The lines are read one after another.
use Rattle.std.proofs.Common.{◌∙◌, sym, ap, arith}
use Rattle.markdown_lines.specs.MetadataBlocks.{closes_metadata}
use Rattle.markdown_lines.proofs.LinesAheadLemmas.{closed_here, none_at_end, passed_over}
use Rattle.markdown_lines.proofs.lines_ahead.one_closes.Goals as goal

pub returns-then-closes_metadata : goal.returns-then-closes_metadata
returns-then-closes_metadata c =
    closed_here c.args.kind c.args.text.now c.lines.at c.line_from-line.result c.lines-test.true
    (c.line_from-line.ensures.value (omega (arith, c.lines-test.true)))
    (ap (closes_metadata c.args.kind) (sym c.bytes_of.ensures) ∙ (sym c.closes_metadata.ensures
    ∙ c.if-closes_metadata.true))
    ∙ c.lines.invariant

pub lines-preserved : goal.lines-preserved
lines-preserved c =
    passed_over c.args.kind c.args.text.now c.lines.at c.line_from-line.result c.lines-test.true
    (c.line_from-line.ensures.value (omega (arith, c.lines-test.true)))
    (ap (closes_metadata c.args.kind) (sym c.bytes_of.ensures) ∙ (sym c.closes_metadata.ensures
    ∙ c.if-closes_metadata.false))
    ∙ c.lines.invariant

pub returns : goal.returns
returns c = none_at_end c.args.kind c.args.text.now c.lines.at c.lines-test.false ∙ c.lines.invariant
