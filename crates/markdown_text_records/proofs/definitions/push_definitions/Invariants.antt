-- The first definitions are written, and the others are left.
use Rattle.markdown_text_records.proofs.DefinitionsLemmas.{IsWritten}
use Rattle.markdown_text_records.proofs.definitions.push_definitions.Given as goal

abbrev pub invariant-loop-label : goal.invariant-loop-label
invariant-loop-label l = IsWritten l.initial.records l.definitions l.label-iterator l.records
