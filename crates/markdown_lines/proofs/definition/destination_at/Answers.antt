-- What the text has there is what the lines have, since a destination ends in its line.
use Rattle.std.proofs.Common.{arith, List, ◌+◌, ◌<◌, ◌^◌}
use Rattle.markdown_lines.specs.HeldPlaces.{IsPlace}
use Rattle.markdown_lines.specs.declared.held_line.HeldLine.{HeldLine}
use Rattle.markdown_lines.proofs.DestinationLineLemmas.{destination_is, empty_destination, no_destination}
use Rattle.markdown_lines.proofs.definition.destination_at.Goals as goal

pub returns-in_err-length-clause-value : goal.returns-in_err-length-clause-value
returns-in_err-length-clause-value c =
    λ (lines : List HeldLine) (place : IsPlace c.args.text.now lines c.args.start).
    rw c.from_residual.ensures
    (no_destination c.args.text.now lines c.args.start c.in_err-length.ensures.value place)

pub returns-then-length-eq0-clause-value : goal.returns-then-length-eq0-clause-value
returns-then-length-eq0-clause-value c =
    λ (lines : List HeldLine) (place : IsPlace c.args.text.now lines c.args.start).
    empty_destination c.args.text.now lines c.args.start c.in_ok-length.length c.in_ok-length.destination.now
    c.in_ok-length.ensures.value c.if-length-eq0.true place

pub returns-clause-value : goal.returns-clause-value
returns-clause-value c =
    λ (lines : List HeldLine) (place : IsPlace c.args.text.now lines c.args.start).
    (destination_is c.args.text.now lines c.args.start c.in_ok-length.length c.saturating_add.result
    c.in_ok-length.destination.now c.in_ok-length.ensures.value c.if-length-eq0.false (omega arith)
    c.in_ok-length.ensures.boundary
    (λ (less : c.args.start.at + c.in_ok-length.length < 2 ^ 64). omega (arith, less, c.saturating_add.ensures))
    place).value

pub returns-clause-ends : goal.returns-clause-ends
returns-clause-ends c =
    λ (lines : List HeldLine) (place : IsPlace c.args.text.now lines c.args.start).
    let is = destination_is c.args.text.now lines c.args.start c.in_ok-length.length c.saturating_add.result
    c.in_ok-length.destination.now c.in_ok-length.ensures.value c.if-length-eq0.false (omega arith)
    c.in_ok-length.ensures.boundary
    (λ (less : c.args.start.at + c.in_ok-length.length < 2 ^ 64). omega (arith, less, c.saturating_add.ensures))
    place in
    (is.ends, is.order)
