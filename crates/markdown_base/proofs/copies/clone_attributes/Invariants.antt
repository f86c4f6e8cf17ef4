-- The attributes so far have been copied, and slices as slices.
use Rattle.std.proofs.Common.{◌≡◌, map, flat_map, take}
use Rattle.markdown_base.specs.Event.{attribute_view}
use Rattle.markdown_base.specs.CopiedTexts.{KeepsSlices, texts_of_attribute}
use Rattle.markdown_base.proofs.copies.clone_attributes.Given as goal

abbrev pub invariant-loop-attribute : goal.invariant-loop-attribute
invariant-loop-attribute l =
    (map attribute_view l.copies.items ≡ map attribute_view (take l.attribute-index l.attributes))
    × KeepsSlices (flat_map texts_of_attribute (take l.attribute-index l.attributes))
    (flat_map texts_of_attribute l.copies.items)
