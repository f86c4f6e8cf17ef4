-- All bytes are of the kind: it is a break just where three or more are its character.
use Rattle.std.proofs.Common.{sym, ◌∙◌, arith}
use Rattle.markdown_lines.proofs.ThematicBreaksLemmas.{break_is, few_marks}
use Rattle.markdown_lines.proofs.thematic_break.thematic_break.Goals as goal

pub returns-then-count_of-ge3 : goal.returns-then-count_of-ge3
returns-then-count_of-ge3 c =
    break_is c.args.content.now c.in-Some.first.now c.in-Some.ensures.value
    (sym c.is_break_mark.ensures ∙ c.if-not-is_break_mark.false) (omega (arith, c.break_length-length.ensures.value))
    (omega (arith, c.count_of.ensures))

pub returns-else-count_of-ge3 : goal.returns-else-count_of-ge3
returns-else-count_of-ge3 c =
    few_marks c.args.content.now c.in-Some.first.now c.in-Some.ensures.value
    (sym c.is_break_mark.ensures ∙ c.if-not-is_break_mark.false) (omega (arith, c.break_length-length.ensures.value))
    (omega (arith, c.count_of.ensures))
