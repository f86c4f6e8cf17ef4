-- The parts of the first classes are written.
use Rattle.markdown_base.specs.CowText.{text_of}
use Rattle.markdown_records.specs.Drafts.{class_parts}
use Rattle.markdown_records.proofs.WritesLemmas.{WrittenTo}
use Rattle.markdown_records.proofs.encode.Records.push_classes.Given as goal

abbrev pub invariant-loop-class : goal.invariant-loop-class
invariant-loop-class l = WrittenTo (λ x. class_parts (text_of x)) l.initial.self l.classes l.class-index l.self
