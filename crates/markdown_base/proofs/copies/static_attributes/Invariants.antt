-- The attributes so far have the same names and values, without borrowing from the source.
use Rattle.std.proofs.Common.{◌≡◌, map}
use Rattle.markdown_base.specs.Event.{attribute_view}
use Rattle.markdown_base.proofs.copies.static_attributes.Given as goal

abbrev pub invariant-loop-attribute : goal.invariant-loop-attribute
invariant-loop-attribute l = map attribute_view l.made.items ≡ map attribute_view l.yielded
