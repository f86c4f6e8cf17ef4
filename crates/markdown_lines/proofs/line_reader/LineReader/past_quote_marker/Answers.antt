-- The rest of the line is what follows the marker and the space after it.
use Rattle.std.proofs.Common.{arith}
use Rattle.markdown_lines.proofs.PositionsLemmas.{past_byte_is, past_marker_is}
use Rattle.markdown_lines.proofs.line_reader.LineReader.past_quote_marker.Goals as goal

pub returns : goal.returns
returns c =
    let text = c.args.self.now.text.now in
    let stop = c.args.self.now.stop in
    past_marker_is text c.args.here c.past.result stop c.read_space.result
    (past_byte_is text c.args.here c.past.result stop (c.past.ensures.at (omega (arith, c.requires)))
    c.past.ensures.column c.past.ensures.owed) c.read_space.ensures.value
