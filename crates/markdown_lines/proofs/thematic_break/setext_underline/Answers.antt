-- What follows the run of the first character decides.
use Rattle.std.proofs.Common.{true, false, sym, ◌∙◌}
use Rattle.markdown_lines.proofs.LineBytesLemmas.{tail_of}
use Rattle.markdown_lines.proofs.ThematicBreaksLemmas.{setext_is}
use Rattle.markdown_lines.proofs.thematic_break.setext_underline.Goals as goal

pub returns-then-not-is_white : goal.returns-then-not-is_white
returns-then-not-is_white c =
    setext_is c.args.content.now _ c.in-Some.first.now c.run_length-count.result false c.in-Some.ensures.value
    (tail_of c.run_length-count.result c.args.content.now) c.run_length-count.ensures.value
    (sym c.is_white.ensures ∙ c.if-not-is_white.true)

pub returns : goal.returns
returns c =
    c.underline_level.ensures ∙ setext_is c.args.content.now _ c.in-Some.first.now c.run_length-count.result true
    c.in-Some.ensures.value (tail_of c.run_length-count.result c.args.content.now) c.run_length-count.ensures.value
    (sym c.is_white.ensures ∙ c.if-not-is_white.false)
