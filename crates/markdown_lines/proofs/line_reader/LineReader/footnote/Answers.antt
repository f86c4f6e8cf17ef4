-- The place inside is after the marker.
use Rattle.std.proofs.Common.{Some, [], ◌∷◌, ◌∙◌, sym, ap, arith, subst, List, ℕ, ◌≡◌, ◌≤◌, length, slice_range, true}
use Rattle.std.proofs.Common.{Option, IfSome}
use Rattle.markdown_base.specs.declared.cow_str.CowStr.{CowStr}
use Rattle.std.specs.Option.{option_map}
use Rattle.markdown_base.specs.CowText.{text_of}
use Rattle.markdown_lines.specs.BlockBeginnings.{first_found, footnote_marker}
use Rattle.markdown_lines.proofs.BlockStartsLemmas.{cut_before, footnote_found}
use Rattle.markdown_lines.proofs.PositionsLemmas.{past_bytes_is, place_fits}
use Rattle.markdown_lines.proofs.line_reader.LineReader.footnote.Goals as goal

pub returns-in-Some : goal.returns-in-Some
returns-in-Some c =
    let reader = c.args.self.now in
    let text = reader.text.now in
    let here = c.args.here in
    let width = c.in-Some.width in
    let cut = cut_before text here.at reader.stop 90 c.requires (omega arith) in
    let part = c.part_of-content.ensures.cut (omega (arith, cut.0)) cut.1 reader.boundary in
    let marker = ap footnote_marker (sym part) ∙ (sym c.in_ok-label.ensures.value
    ∙ ap (option_map (λ marker. (text_of marker.0, marker.1))) c.in-Some.is) in
    let on : reader.syntax.footnotes ≡ true = c.if-not-self.false in
    let fits : width ≤ length (slice_range text here.at reader.stop) =
    subst (λ (bytes : List ℕ). width ≤ length bytes) part
    (subst (λ (found : Option (CowStr × ℕ)). IfSome found (λ marker. marker.1 ≤ length c.part_of-content.result.now))
    c.in-Some.is c.in_ok-label.ensures.within) in
    ap (λ found. Some (first_found (found ∷ [])))
    (footnote_found reader.syntax text here c.past.result reader.stop width (text_of c.in-Some.label) on marker
    (past_bytes_is text here c.past.result reader.stop width
    (c.past.ensures.at (place_fits text here.at reader.stop width fits (omega arith) (omega arith)))
    c.past.ensures.column c.past.ensures.owed))
