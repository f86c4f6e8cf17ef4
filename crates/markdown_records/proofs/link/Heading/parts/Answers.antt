-- The parts have been counted, or there are too many.
use Rattle.std.proofs.Common.{arith, refl}
use Rattle.std.proofs.lemmas.List.{take_all}
use Rattle.std.proofs.lemmas.List.Folds.{length-flat_map-take}
use Rattle.markdown_base.specs.CowText.{text_of}
use Rattle.markdown_base.specs.Event.{attribute_view}
use Rattle.markdown_records.specs.Drafts.{attribute_parts}
use Rattle.markdown_records.proofs.HeadingLemmas.{heading_count}
use Rattle.markdown_records.proofs.link.Heading.parts.Goals as goal

pub returns-in_default : goal.returns-in_default
returns-in_default c =
    let here = rw c.attribute-item.is at c.part_count.ensures in (
      refl,
      omega (
        arith,
        here,
        length-flat_map-take (λ a. attribute_parts (attribute_view a)) c.args.self.now.attributes.now
            c.loop-attribute.attribute-index c.attribute-item.result c.loop-attribute-test.true,
        heading_count text_of attribute_view c.args.self.now.classes.now c.args.self.now.attributes.now,
      ),
    )

pub returns : goal.returns
returns c =
    let all = take_all c.loop-attribute.attribute-index c.args.self.now.attributes.now c.loop-attribute-test.false in
    rw (heading_count text_of attribute_view c.args.self.now.classes.now c.args.self.now.attributes.now)
    (rw all at c.loop-attribute.invariant)
