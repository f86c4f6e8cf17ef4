-- A line is passed, or the spot is in it.
use Rattle.std.proofs.Common.{arith, List, ℕ, length, ◌<◌, ◌^◌}
use Rattle.markdown_lines.specs.HeldLines.{AreHeldLines}
use Rattle.markdown_lines.proofs.HeldLinesLemmas.{bounds_of, found_line, line_of}
use Rattle.markdown_lines.proofs.AfterLabelLemmas.{counts_here, counts_more, counts_none}
use Rattle.markdown_lines.proofs.definition.spot_after.Goals as goal

pub lines-init : goal.lines-init
lines-init c =
    λ (text : List ℕ) (fits : length text < 2 ^ 64) (held : AreHeldLines text c.args.lines.now).
    counts_none text c.args.lines.now c.args.count

pub returns-then-left-size : goal.returns-then-left-size
returns-then-left-size c =
    λ (text : List ℕ) (fits : length text < 2 ^ 64) (held : AreHeldLines text c.args.lines.now).
    let look = c.in-Some.ensures.lookup in
    let there = found_line c.args.lines.now c.lines.number c.in-Some.line.now (omega arith) look.1 in
    let known = line_of text 0 c.args.lines.now c.lines.number c.in-Some.line.now held there in
    let bounds = bounds_of text c.in-Some.line.now known.is in
    let within = bounds.within in
    counts_here text c.args.lines.now c.args.count c.lines.number c.lines.left c.saturating_add.result
    c.in-Some.line.now there (omega (arith, c.if-left-size.true, c.saturating_sub-size.ensures))
    (omega (arith, c.if-left-size.true, c.saturating_sub-size.ensures, c.saturating_add.ensures))
    (c.lines.invariant text fits held)

pub lines-preserved : goal.lines-preserved
lines-preserved c =
    λ (text : List ℕ) (fits : length text < 2 ^ 64) (held : AreHeldLines text c.args.lines.now).
    let look = c.in-Some.ensures.lookup in
    let there = found_line c.args.lines.now c.lines.number c.in-Some.line.now (omega arith) look.1 in
    counts_more text c.args.lines.now c.args.count c.lines.number c.lines.left c.saturating_sub-size.result
    c.in-Some.line.now there (omega (arith, c.saturating_sub-size.ensures)) c.if-left-size.false held
    (c.lines.invariant text fits held)
