use Rattle.std.proofs.Common.{arith}
use Rattle.std.proofs.lemmas.Grind.{common_steps}
use Rattle.markdown_base.proofs.CopiedTextsLemmas.{keeps-one_more}
use Rattle.markdown_base.proofs.copies.clone_texts.Goals as goal

pub loop-text-preserved : goal.loop-text-preserved
loop-text-preserved c = (
  grind (arith, common_steps),
  rw c.in_ok-push.ensures.items (keeps-one_more c.args.texts.now c.loop-text.copies.items
      c.loop-text.text-index c.text-item.result c.in_ok-try_clone.field-0 c.loop-text-test.true c.text-item.is
      c.loop-text.invariant.1 c.in_ok-try_clone.ensures.borrowed),
)
