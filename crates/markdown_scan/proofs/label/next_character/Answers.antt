use Rattle.std.proofs.Common.{None, Some, sym, ◌∙◌}
use Rattle.markdown_scan.specs.Backslash.{is_bare}
use Rattle.markdown_scan.proofs.LabelCharacterLemmas.{character_step, ends_at_bracket, ends_at_line, ends_empty}
use Rattle.markdown_scan.proofs.LabelTextLemmas.{neither, shorter_past}
use Rattle.markdown_scan.proofs.label.next_character.Goals as goal

pub returns-clause-next : goal.returns-clause-next
returns-clause-next g c in_table =
    let bare = neither (is_bare c.args.escaped c.in_ok-c.c 93) (is_bare c.args.escaped c.in_ok-c.c 91)
    (sym c.is_bracket.ensures
    ∙ c.if-is_bracket.false) in
    rw (c.in_ok-c.ensures, c.range_from.ensures.value) (
    character_step (g.R.LineRule.skipped c.args.rule.now) in_table c.args.escaped c.in_ok-c.c c.in_ok-c.tail.now
    c.in_ok-skipped.skipped
    bare.0 bare.1 (sym {a = Some c.in_ok-skipped.skipped} c.in_ok-skipped.ensures.value) c.in_ok-skipped.ensures.within)

pub returns-clause-shorter : goal.returns-clause-shorter
returns-clause-shorter g c =
    rw c.range_from.ensures.value (shorter_past c.args.rest.now c.in_ok-c.tail.now c.in_ok-c.c c.in_ok-skipped.skipped
    c.in_ok-c.ensures)

pub returns-in_err-c-clause-end : goal.returns-in_err-c-clause-end
returns-in_err-c-clause-end g c =
    rw c.from_residual.ensures (λ in_table.
    ends_empty (g.R.LineRule.skipped c.args.rule.now) in_table c.args.escaped c.args.rest.now c.in_err-c.ensures)

pub returns-in_err-c-clause-next : goal.returns-in_err-c-clause-next
returns-in_err-c-clause-next g c = rw c.from_residual.ensures tt

pub returns-then-is_bracket-clause-end : goal.returns-then-is_bracket-clause-end
returns-then-is_bracket-clause-end g c in_table =
    rw c.in_ok-c.ensures (ends_at_bracket (g.R.LineRule.skipped c.args.rule.now) in_table c.args.escaped c.in_ok-c.c
    c.in_ok-c.tail.now (sym c.is_bracket.ensures ∙ c.if-is_bracket.true))

pub returns-in_err-skipped-clause-end : goal.returns-in_err-skipped-clause-end
returns-in_err-skipped-clause-end g c =
    let bare = neither (is_bare c.args.escaped c.in_ok-c.c 93) (is_bare c.args.escaped c.in_ok-c.c 91)
    (sym c.is_bracket.ensures ∙ c.if-is_bracket.false) in
    rw (c.from_residual-in_err-skipped.ensures, c.in_ok-c.ensures) (λ in_table.
    ends_at_line (g.R.LineRule.skipped c.args.rule.now) in_table c.args.escaped c.in_ok-c.c c.in_ok-c.tail.now
    bare.0 bare.1 (sym {a = None} c.in_err-skipped.ensures.value))

pub returns-in_err-skipped-clause-next : goal.returns-in_err-skipped-clause-next
returns-in_err-skipped-clause-next g c = rw c.from_residual-in_err-skipped.ensures tt

pub returns-clause-text : goal.returns-clause-text
returns-clause-text g c = c.range_from.utf8
