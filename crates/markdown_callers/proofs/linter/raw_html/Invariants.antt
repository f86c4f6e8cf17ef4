use Rattle.std.proofs.Common.{◌≡◌, take}
use Rattle.markdown.specs.ReadingWords.{viewed}
use Rattle.markdown_callers.specs.Linter.{html_positions}
use Rattle.markdown_callers.proofs.linter.raw_html.Given as goal

-- the positions so far are those of the events so far
abbrev pub invariant-loop-event : goal.invariant-loop-event
invariant-loop-event l = l.positions.items ≡ html_positions l.source (viewed (take l.event-index l.event-items))
