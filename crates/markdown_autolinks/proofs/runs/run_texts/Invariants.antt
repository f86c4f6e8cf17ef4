-- The Texts so far.
use Rattle.std.proofs.Common.{◌≡◌, map, take}
use Rattle.markdown_autolinks.specs.LinkedRuns.{run_text}
use Rattle.markdown_autolinks.specs.RunRead.{FitRanges, run_text_view, texts_of}
use Rattle.markdown_autolinks.proofs.runs.run_texts.Given as goal

abbrev pub invariant-loop-event : goal.invariant-loop-event
invariant-loop-event l = record {
  texts : map run_text_view l.texts.items ≡ map (run_text l.source) (texts_of (take l.event-index l.run));
  fit : FitRanges (map run_text_view l.texts.items);
}
