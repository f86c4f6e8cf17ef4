-- The classes have been counted, and the parts of the attributes so far.
use Rattle.std.proofs.Common.{◌≡◌, ◌+◌, length, take}
use Rattle.std.specs.List.{flat_map}
use Rattle.markdown_base.specs.Event.{attribute_view}
use Rattle.markdown_records.specs.Drafts.{attribute_parts}
use Rattle.markdown_records.proofs.link.Heading.parts.Given as goal

abbrev pub invariant-loop-attribute : goal.invariant-loop-attribute
invariant-loop-attribute l = l.parts ≡ length l.self.classes.now
    + length (flat_map (λ a. attribute_parts (attribute_view a)) (take l.attribute-index l.self.attributes.now))
