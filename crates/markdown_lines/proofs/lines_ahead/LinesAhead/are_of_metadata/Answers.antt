-- The line after the one that opens metadata, and the lines after that.
use Rattle.std.proofs.Common.{refl, sym, ap, ◌∙◌, arith, true, false}
use Rattle.std.specs.List.{list_all}
use Rattle.markdown_lines.specs.Lines.{is_space_or_tab}
use Rattle.markdown_lines.specs.MetadataBlocks.{closes_metadata}
use Rattle.markdown_lines.proofs.LinesAheadLemmas.{line_ends, of_metadata, of_none}
use Rattle.markdown_lines.proofs.lines_ahead.LinesAhead.are_of_metadata.Goals as goal

pub returns-then-next-self-clause-value : goal.returns-then-next-self-clause-value
returns-then-next-self-clause-value c = of_none c.args.kind c.args.self.now.text.now c.args.next c.if-next-self.true

pub is_closed-requires : goal.is_closed-requires
is_closed-requires c =
    line_ends c.args.self.now.text.now c.args.next c.line_from-first.result c.if-next-self.false
    (c.line_from-first.ensures.value (omega (arith, c.if-next-self.false)))

pub returns-then-is_white-clause-value : goal.returns-then-is_white-clause-value
returns-then-is_white-clause-value c =
    let text = c.args.self.now.text.now in
    of_metadata c.args.kind text c.args.next c.line_from-first.result true _ _ c.if-next-self.false
    (c.line_from-first.ensures.value (omega (arith, c.if-next-self.false)))
    (sym c.if-is_white.true ∙ (c.is_white.ensures ∙ ap (list_all is_space_or_tab) c.bytes_of-content.ensures)) refl refl

pub returns-then-closes_metadata-clause-value : goal.returns-then-closes_metadata-clause-value
returns-then-closes_metadata-clause-value c =
    let text = c.args.self.now.text.now in
    of_metadata c.args.kind text c.args.next c.line_from-first.result false true _ c.if-next-self.false
    (c.line_from-first.ensures.value (omega (arith, c.if-next-self.false)))
    (sym c.if-is_white.false ∙ (c.is_white.ensures ∙ ap (list_all is_space_or_tab) c.bytes_of-content.ensures))
    (sym c.if-closes_metadata.true
    ∙ (c.closes_metadata.ensures ∙ ap (closes_metadata c.args.kind) c.bytes_of-content.ensures)) refl

pub returns-clause-value : goal.returns-clause-value
returns-clause-value c =
    let text = c.args.self.now.text.now in
    of_metadata c.args.kind text c.args.next c.line_from-first.result false false c.is_closed.result
    c.if-next-self.false
    (c.line_from-first.ensures.value (omega (arith, c.if-next-self.false)))
    (sym c.if-is_white.false ∙ (c.is_white.ensures ∙ ap (list_all is_space_or_tab) c.bytes_of-content.ensures))
    (sym c.if-closes_metadata.false
    ∙ (c.closes_metadata.ensures ∙ ap (closes_metadata c.args.kind) c.bytes_of-content.ensures))
    c.is_closed.ensures.value
