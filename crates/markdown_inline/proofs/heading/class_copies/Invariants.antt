-- The classes so far are copied.
use Rattle.std.proofs.Common.{◌≡◌, map, take}
use Rattle.markdown_base.specs.CowText.{text_of}
use Rattle.markdown_inline.proofs.heading.class_copies.Given as goal

abbrev pub invariant-loop-class : goal.invariant-loop-class
invariant-loop-class l = map text_of l.copies.items ≡ map text_of (take l.class-index l.classes)
