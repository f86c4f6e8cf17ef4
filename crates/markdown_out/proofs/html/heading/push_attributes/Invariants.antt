use Rattle.std.specs.String.{string_bytes}
use Rattle.markdown_base.specs.Event.{attribute_view}
use Rattle.markdown_out.specs.TagHtml.{other_attribute}
use Rattle.markdown_out.proofs.ByteListsLemmas.{StandsTo}
use Rattle.markdown_out.proofs.html.heading.push_attributes.Given as goal

abbrev pub invariant-loop-attribute : goal.invariant-loop-attribute
invariant-loop-attribute l =
    StandsTo (λ a. other_attribute (attribute_view a)) (string_bytes l.s) (string_bytes l.initial.s)
    l.attributes l.attribute-index
