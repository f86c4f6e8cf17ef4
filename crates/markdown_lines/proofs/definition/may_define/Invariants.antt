-- What is left decides.
use Rattle.markdown_lines.proofs.HeldLabelsLemmas.{LeavesColon}
use Rattle.markdown_lines.proofs.definition.may_define.Given as goal

abbrev pub invariant-loop-at : goal.invariant-loop-at
invariant-loop-at l = LeavesColon l.content l.at l.escaped
