-- The names so far are copied, with their values.
use Rattle.std.proofs.Common.{◌≡◌, map, take}
use Rattle.markdown_base.specs.Event.{attribute_view}
use Rattle.markdown_inline.proofs.heading.attribute_copies.Given as goal

abbrev pub invariant-loop-attribute : goal.invariant-loop-attribute
invariant-loop-attribute l = map attribute_view l.copies.items
    ≡ map attribute_view (take l.attribute-index l.attributes)
