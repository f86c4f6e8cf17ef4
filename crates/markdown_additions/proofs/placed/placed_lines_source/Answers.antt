-- The lines are those of the events that have just been made, with places in the same text.
use Rattle.std.proofs.lemmas.Result.{IfErr-weaker, IfOk-weaker}
use Rattle.std.specs.Prelude.{string_bytes}
use Rattle.markdown_additions.specs.Additions.{added_events, additions_view}
use Rattle.markdown_base.specs.Source.{source_as}
use Rattle.markdown_additions.proofs.WrittenLemmas.{placed_among}
use Rattle.markdown_additions.proofs.placed.placed_lines_source.Goals as goal

pub returns-clause-lines : goal.returns-clause-lines
returns-clause-lines c =
    let a = additions_view c.args.additions in
    let s = source_as c.args.syntax c.args.text.now in
    IfOk-weaker c.placed_lines.result _ _
    (λ lines are. placed_among _ c.args.text.now (added_events a s) (string_bytes lines) c.in_ok-positions.ensures
    (are a s c.in_ok-events.ensures.new)) c.placed_lines.ensures.lines

pub returns-clause-refused : goal.returns-clause-refused
returns-clause-refused c =
    IfErr-weaker c.placed_lines.result _ _
    (λ x h. h (additions_view c.args.additions) (source_as c.args.syntax c.args.text.now)
    c.in_ok-events.ensures.new) c.placed_lines.ensures.refused
