-- Where the fence is long enough, what follows it decides.
use Rattle.markdown_lines.proofs.CodeFencesLemmas.{closes_is}
use Rattle.markdown_lines.proofs.LineBytesLemmas.{tail_of}
use Rattle.markdown_lines.proofs.fence.is_closing_fence.Goals as goal

pub returns-then-length-opening : goal.returns-then-length-opening
returns-then-length-opening c =
    closes_is c.args.text.now c.args.at c.args.stop c.args.opening c.bytes_of-line.result.now _
    c.run_length-length.result
    c.is_white.result c.bytes_of-line.ensures (tail_of c.run_length-length.result c.bytes_of-line.result.now)
    c.run_length-length.ensures.value c.if-length-opening.true c.is_white.ensures
