-- No block is open.
use Rattle.std.proofs.Common.{ap}
use Rattle.markdown_builder.specs.BuilderView.{BuilderView}
use Rattle.markdown_plain.proofs.ContainersLemmas.{stretches_of_none}
use Rattle.markdown_plain.proofs.placing.Placing.new.Goals as goal

pub invariant_of-result : goal.invariant_of-result
invariant_of-result c = record {
  stretched = stretches_of_none c.new-2.result c.in_ok-new.field-0.blocks
      (ap (λ (b : BuilderView). b.blocks) c.in_ok-new.ensures) c.new-2.ensures;
}
