-- A line that another one follows has a line ending.
use Rattle.std.proofs.Common.{arith}
use Rattle.markdown_lines.specs.HeldPlaces.{IsPlace}
use Rattle.markdown_lines.proofs.HeldLinesLemmas.{found_line}
use Rattle.markdown_lines.proofs.HeldBetweenLemmas.{line_rest}
use Rattle.markdown_lines.proofs.definition.rest_of_line.Goals as goal

pub returns-clause-value : goal.returns-clause-value
returns-clause-value c =
    λ (place : IsPlace c.args.text.now c.args.lines.now c.args.from).
    let look = c.in_ok-line.ensures.lookup in
    let there = found_line c.args.lines.now c.args.from.line c.in_ok-line.line.now (omega arith) look.1 in
    line_rest c.args.text.now c.args.lines.now c.args.from c.in_ok-line.line.now c.in_ok-next.next
    c.part_of.result.now c.utf8.text there c.in_ok-next.ensures c.part_of.ensures place
