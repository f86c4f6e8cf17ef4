-- White space ends in its line, at the beginning of the next one, or with the last one.
use Rattle.std.proofs.Common.{◌≤◌, arith, suc, length}
use Rattle.markdown_lines.specs.HeldPlaces.{IsPlace}
use Rattle.markdown_lines.proofs.HeldLinesLemmas.{found_line}
use Rattle.markdown_lines.proofs.HeldPlacesLemmas.{past_all, past_in_line, past_line}
use Rattle.markdown_lines.proofs.definition.past_space.Goals as goal

pub returns-then-at-line-clause-value : goal.returns-then-at-line-clause-value
returns-then-at-line-clause-value c =
    λ (place : IsPlace c.args.text.now c.args.lines.now c.args.spot).
    let look = c.in_ok-line.ensures.lookup in
    let there = found_line c.args.lines.now c.args.spot.line c.in_ok-line.line.now (omega arith) look.1 in
    (past_in_line c.args.text.now c.args.lines.now c.args.spot c.in_ok-line.line.now c.content_start-at.result
    c.utf8.text there c.content_start-at.ensures c.if-at-line.true place).past

pub returns-then-at-line-clause-moved : goal.returns-then-at-line-clause-moved
returns-then-at-line-clause-moved c =
    λ (place : IsPlace c.args.text.now c.args.lines.now c.args.spot).
    let look = c.in_ok-line.ensures.lookup in
    let there = found_line c.args.lines.now c.args.spot.line c.in_ok-line.line.now (omega arith) look.1 in
    (past_in_line c.args.text.now c.args.lines.now c.args.spot c.in_ok-line.line.now c.content_start-at.result
    c.utf8.text there c.content_start-at.ensures c.if-at-line.true place).moved

pub returns-in_err-get-clause-value : goal.returns-in_err-get-clause-value
returns-in_err-get-clause-value c =
    λ (place : IsPlace c.args.text.now c.args.lines.now c.args.spot).
    let look = c.in_ok-line.ensures.lookup in
    let there = found_line c.args.lines.now c.args.spot.line c.in_ok-line.line.now (omega arith) look.1 in
    let lookup = c.in_err-get.ensures.lookup in
    let last : length c.args.lines.now ≤ suc c.args.spot.line = omega (arith, c.saturating_add-next.ensures) in
    rw c.from_residual-in_err-get.ensures
    (past_all c.args.text.now c.args.lines.now c.args.spot c.in_ok-line.line.now there last
    (omega (arith, c.content_start-at.ensures, c.if-at-line.false)) place)

pub returns-clause-value : goal.returns-clause-value
returns-clause-value c =
    λ (place : IsPlace c.args.text.now c.args.lines.now c.args.spot).
    let look = c.in_ok-line.ensures.lookup in
    let there = found_line c.args.lines.now c.args.spot.line c.in_ok-line.line.now (omega arith) look.1 in
    let look_next = c.in_ok-get.ensures.lookup in
    let after = found_line c.args.lines.now c.saturating_add-next.result c.in_ok-get.field-0.now (omega arith)
    look_next.1 in
    (past_line c.args.text.now c.args.lines.now c.args.spot c.in_ok-line.line.now c.in_ok-get.field-0.now
    c.saturating_add-next.result there (omega (arith, c.saturating_add-next.ensures)) after
    (omega (arith, c.content_start-at.ensures, c.if-at-line.false)) place).past

pub returns-clause-moved : goal.returns-clause-moved
returns-clause-moved c =
    λ (place : IsPlace c.args.text.now c.args.lines.now c.args.spot).
    let look = c.in_ok-line.ensures.lookup in
    let there = found_line c.args.lines.now c.args.spot.line c.in_ok-line.line.now (omega arith) look.1 in
    let look_next = c.in_ok-get.ensures.lookup in
    let after = found_line c.args.lines.now c.saturating_add-next.result c.in_ok-get.field-0.now (omega arith)
    look_next.1 in
    (past_line c.args.text.now c.args.lines.now c.args.spot c.in_ok-line.line.now c.in_ok-get.field-0.now
    c.saturating_add-next.result there (omega (arith, c.saturating_add-next.ensures)) after
    (omega (arith, c.content_start-at.ensures, c.if-at-line.false)) place).moved
