-- The label goes on through the bytes so far.
use Rattle.markdown_lines.proofs.HeldLabelsLemmas.{IsThrough}
use Rattle.markdown_lines.proofs.definition.closes_label.Given as goal

abbrev pub invariant-loop-at : goal.invariant-loop-at
invariant-loop-at l = IsThrough l.content l.at l.escaped
