-- The parts of the first attributes are written.
use Rattle.markdown_base.specs.Event.{attribute_view}
use Rattle.markdown_records.specs.Drafts.{attribute_parts}
use Rattle.markdown_records.proofs.WritesLemmas.{WrittenTo}
use Rattle.markdown_records.proofs.encode.Records.push_attributes.Given as goal

abbrev pub invariant-loop-attribute : goal.invariant-loop-attribute
invariant-loop-attribute l =
    WrittenTo (λ x. attribute_parts (attribute_view x)) l.initial.self l.attributes l.attribute-index l.self
