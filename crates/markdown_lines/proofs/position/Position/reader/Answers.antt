-- The bytes from a place on are those of the line's text without what is before the place.
use Rattle.std.proofs.Common.{◌≡◌, ◌∙◌, ℕ, ◌+◌, List, ap, arith, drop, slice_range}
use Rattle.markdown_scan.specs.LineStart.{LineLeft}
use Rattle.markdown_lines.proofs.PositionsLemmas.{rest_of_part}
use Rattle.markdown_lines.proofs.position.Position.reader.Goals as goal

pub returns : goal.returns
returns c =
    let text = c.args.text.now in
    let stop = c.args.stop in
    let here = c.args.self in
    let from : 0 + here.at ≡ here.at = omega arith in
    let bytes = ap (drop here.at) c.bytes_of.ensures
    ∙ (rest_of_part text 0 stop here.at ∙ ap (λ n. slice_range text n stop) from) in
    let left : List ℕ → LineLeft =
    λ bytes. record { scanned = here.at; owed = here.owed; column = here.column; bytes = bytes } in
    c.at_place.ensures ∙ ap left bytes
