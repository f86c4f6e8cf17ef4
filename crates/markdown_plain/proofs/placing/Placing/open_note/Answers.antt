-- The stretches around the block are those of the blocks that were open.
use Rattle.std.proofs.Common.{ap}
use Rattle.markdown_builder.specs.BuilderView.{BuilderView}
use Rattle.markdown_plain.proofs.ContainersLemmas.{stretches_inside}
use Rattle.markdown_plain.proofs.placing.Placing.open_note.Goals as goal

pub invariant_of-self-in-Ok : goal.invariant_of-self-in-Ok
invariant_of-self-in-Ok c = record {
  stretched = stretches_inside c.args.self.now.stretches c.enter.new.self c.open_blocks.result.now
      c.args.self.now.builder.blocks _ _ c.open_blocks.ensures c.in_ok-enter.ensures.entered
      c.args.self.now.stretched (ap (λ (b : BuilderView). b.blocks) c.in-Ok.ensures.opens);
}
