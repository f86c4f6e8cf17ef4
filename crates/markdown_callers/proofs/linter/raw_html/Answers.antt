-- Each event adds its position, if it is raw HTML; and the events are those of the text.
use Rattle.std.proofs.Common.{◌≡◌, ◌≤◌, ◌∙◌, ℕ, List, [], ◌∷◌, ◌++◌, ap, length}
use Rattle.std.proofs.lemmas.List.{take_all}
use Rattle.std.specs.declared.ops.Range.{Range}
use Rattle.markdown.specs.EventWords.{Event}
use Rattle.markdown.specs.ReadingWords.{viewed}
use Rattle.markdown_callers.specs.Linter.{html_positions}
use Rattle.markdown_callers.specs.declared.linter.LineColumn.{LineColumn}
use Rattle.markdown_callers.proofs.LinterLemmas.{positions-more, positions-same}
use Rattle.markdown_callers.proofs.TextReadingLemmas.{are_events}
use Rattle.markdown_callers.proofs.linter.raw_html.Goals as goal
use Rattle.markdown_callers.proofs.linter.raw_html.Goals.{then-is_raw_html+in_ok-push, else-is_raw_html}

pub loop-event-preserved : goal.loop-event-preserved
loop-event-preserved c =
    elim c.if-is_raw_html.branch [
      | then-is_raw_html+in_ok-push w ↦ rw w.positions-is (w.in_ok-push.ensures.items
          ∙ ap (λ (p : LineColumn). c.loop-event.positions.items ++ p ∷ []) w.position_of.ensures
          ∙ positions-more c.args.source.now c.deref-event-items.result.now c.loop-event.event-index
          c.loop-event-item.result c.loop-event.positions.items c.loop-event-test.true c.loop-event-item.is
          w.if-is_raw_html.ensures
          c.loop-event.invariant)
      | else-is_raw_html w ↦ rw w.positions-is
          (positions-same c.args.source.now c.deref-event-items.result.now c.loop-event.event-index
          c.loop-event-item.result c.loop-event.positions.items c.loop-event-test.true c.loop-event-item.is
          w.if-is_raw_html.ensures
          c.loop-event.invariant)
    ]

pub returns-clause-positions : goal.returns-clause-positions
returns-clause-positions c =
    let h : length c.deref-event-items.result.now ≤ c.loop-event.event-index = c.loop-event-test.false in
    (rw take_all at c.loop-event.invariant)
    ∙ (ap (λ (es : List (Event × Range ℕ)). html_positions c.args.source.now (viewed es))
    c.deref-event-items.ensures.value
    ∙ ap (html_positions c.args.source.now) (are_events _ c.args.source.now c.in_ok-parser.parser
    c.into_offset_iter.result c.in_ok-events.events.items _ c.in_ok-parser.ensures.left
    c.in_ok-parser.ensures.callback c.into_offset_iter.ensures c.in_ok-events.ensures.all))
