-- The heading is that of the line.
use Rattle.std.proofs.Common.{sym, ◌∙◌, arith}
use Rattle.markdown_lines.proofs.AtxHeadingsLemmas.{level_some, heading_is}
use Rattle.markdown_lines.proofs.LineBytesLemmas.{tail_of, counted_within}
use Rattle.markdown_lines.proofs.atx_heading.atx_heading.Goals as goal

pub returns-clause-value : goal.returns-clause-value
returns-clause-value c =
    let within = counted_within c.args.text.now c.bytes_of-line.result.now _ _ c.args.at c.args.stop
    c.run_length-count.result c.white_length-white.result c.content_length.result c.bytes_of-line.ensures
    (tail_of c.run_length-count.result c.bytes_of-line.result.now) (tail_of c.white_length-white.result _)
    (level_some c.run_length-count.result c.in_ok-level.level (sym c.heading_level.ensures ∙ c.in_ok-level.was))
    c.run_length-count.ensures.within c.white_length-white.ensures.within c.content_length.ensures.within in
    heading_is c.args.text.now c.args.at c.args.stop c.bytes_of-line.result.now _ _ c.run_length-count.result
    c.white_length-white.result c.content_length.result c.saturating_add-from.result c.saturating_add-2.result
    c.in_ok-level.level c.bytes_of-line.ensures (tail_of c.run_length-count.result c.bytes_of-line.result.now)
    (tail_of c.white_length-white.result _) c.run_length-count.ensures.value
    (sym c.heading_level.ensures ∙ c.in_ok-level.was) (sym c.is_parted.ensures ∙ c.if-not-is_parted.false)
    c.white_length-white.ensures.value c.content_length.ensures.value (omega (arith, within)) (omega (arith, within))
