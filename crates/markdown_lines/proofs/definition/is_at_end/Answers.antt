-- The line is over where the rest of its content is white space.
use Rattle.std.proofs.Common.{◌∙◌, ap, arith, length, ◌≤◌}
use Rattle.std.proofs.lemmas.Option.{slice_get_past}
use Rattle.std.specs.List.{list_all}
use Rattle.markdown_lines.specs.HeldPlaces.{IsPlace}
use Rattle.markdown_lines.specs.Lines.{is_space_or_tab}
use Rattle.markdown_lines.proofs.HeldLinesLemmas.{found_line, is_over_at, no_line}
use Rattle.markdown_lines.proofs.definition.is_at_end.Goals as goal

pub returns-in-Some : goal.returns-in-Some
returns-in-Some c =
    let lookup = c.in-Some.ensures.lookup in
    is_over_at c.args.text.now c.args.lines.now c.args.spot c.in-Some.line.now c.is_white.result
    (found_line c.args.lines.now c.args.spot.line c.in-Some.line.now (omega arith) lookup.1)
    (c.is_white.ensures ∙ ap (list_all is_space_or_tab) c.bytes_of.ensures)

pub returns-in-None : goal.returns-in-None
returns-in-None c =
    λ (place : IsPlace c.args.text.now c.args.lines.now c.args.spot).
    let lookup = c.in-None.ensures.lookup in
    let past : length c.args.lines.now ≤ c.args.spot.line = omega arith in
    absurd (no_line c.args.text.now c.args.lines.now c.args.spot
    (slice_get_past c.args.lines.now c.args.spot.line past) place)
