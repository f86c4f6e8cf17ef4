-- What was found at the byte offset was found in the line.
use Rattle.std.proofs.Common.{Some, None, [], ◌∷◌, ◌∙◌, sym, ap, arith}
use Rattle.markdown_lines.specs.BlockBeginnings.{first_found}
use Rattle.markdown_lines.specs.BlockStarts.{source_read}
use Rattle.markdown_lines.specs.ListMarkers.{list_marker_at}
use Rattle.markdown_lines.proofs.BlockStartsLemmas.{item_found, item_read}
use Rattle.markdown_lines.proofs.PositionsLemmas.{past_bytes_is, place_fits}
use Rattle.markdown_lines.proofs.line_reader.LineReader.item.Goals as goal

pub returns-in-Some : goal.returns-in-Some
returns-in-Some c =
    let reader = c.args.self.now in
    let here = c.args.space.after in
    let width = c.in-Some.marker.width in
    ap (λ found. Some (first_found (found ∷ [])))
    (item_found (source_read reader) c.args.before c.args.space.columns here c.past.result reader.stop c.in-Some.marker
    c.item_space-content.result
    (sym c.in-Some.is ∙ (c.list_marker.ensures.value
    ∙ ap (list_marker_at reader.text.now here.at reader.stop) c.is_reached.ensures))
    (past_bytes_is reader.text.now here c.past.result reader.stop width
    (c.past.ensures.at (place_fits reader.text.now here.at reader.stop width c.in-Some.ensures.within (omega arith)
    (omega arith))) c.past.ensures.column c.past.ensures.owed)
    c.item_space-content.ensures.columns c.item_space-content.ensures.after)

pub returns-in-None : goal.returns-in-None
returns-in-None c =
    let reader = c.args.self.now in
    ap (λ found. Some (first_found (found ∷ [])))
    (item_read (source_read reader) c.args.before c.args.space.columns c.args.space.after reader.stop None
    (sym c.in-None.is ∙ (c.list_marker.ensures.value
    ∙ ap (list_marker_at reader.text.now c.args.space.after.at reader.stop) c.is_reached.ensures)))
