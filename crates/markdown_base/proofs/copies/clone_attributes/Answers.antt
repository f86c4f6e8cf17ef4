use Rattle.std.proofs.Common.{arith}
use Rattle.std.proofs.lemmas.Grind.{common_steps}
use Rattle.markdown_base.specs.CopiedTexts.{texts_of_attribute}
use Rattle.markdown_base.proofs.CopiedTextsLemmas.{keeps-texts_of_one_more}
use Rattle.markdown_base.proofs.copies.clone_attributes.Goals as goal

pub loop-attribute-preserved : goal.loop-attribute-preserved
loop-attribute-preserved c = (
  grind (arith, common_steps),
  rw c.in_ok-push.ensures.items (keeps-texts_of_one_more texts_of_attribute c.args.attributes.now
      c.loop-attribute.copies.items c.loop-attribute.attribute-index c.attribute-item.result
      c.in_ok-clone_attribute.field-0 c.loop-attribute-test.true c.attribute-item.is
      c.loop-attribute.invariant.1 c.in_ok-clone_attribute.ensures.slices),
)
