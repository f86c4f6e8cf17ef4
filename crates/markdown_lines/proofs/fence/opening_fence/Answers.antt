-- The fence is that of the line.
use Rattle.std.proofs.Common.{◌-◌, sym, ◌∙◌, length, take, drop, arith}
use Rattle.markdown_lines.specs.Lines.{is_space_or_tab}
use Rattle.markdown_lines.proofs.CodeFencesLemmas.{fence_is, opens_some}
use Rattle.markdown_lines.proofs.LineBytesLemmas.{tail_of, trimmed_is, counted_within}
use Rattle.markdown_lines.proofs.fence.opening_fence.Goals as goal

pub returns : goal.returns
returns c =
    let opens = sym c.opens_fence.ensures ∙ c.if-not-opens_fence.false in
    let within = counted_within c.args.text.now c.bytes_of-line.result.now _ _ c.args.at c.args.stop
    c.run_length-length.result c.white_length-white.result c.trimmed_length.result c.bytes_of-line.ensures
    (tail_of c.run_length-length.result c.bytes_of-line.result.now) (tail_of c.white_length-white.result _)
    (opens_some c.args.byte c.run_length-length.result
    (take (length c.bytes_of-line.result.now - c.run_length-length.result)
    (drop c.run_length-length.result c.bytes_of-line.result.now)) opens)
    c.run_length-length.ensures.within c.white_length-white.ensures.within c.trimmed_length.ensures.within in
    fence_is c.args.text.now c.args.at c.args.stop c.args.byte c.args.indent c.bytes_of-line.result.now _ _
    c.run_length-length.result c.white_length-white.result c.trimmed_length.result c.saturating_add-from.result
    c.saturating_add-2.result c.bytes_of-line.ensures (tail_of c.run_length-length.result c.bytes_of-line.result.now)
    (tail_of c.white_length-white.result _) c.run_length-length.ensures.value opens
    c.white_length-white.ensures.value (c.trimmed_length.ensures.value ∙ trimmed_is is_space_or_tab _)
    (omega (arith, within)) (omega (arith, within))
