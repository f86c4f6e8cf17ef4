-- Each turn closes one of the blocks that were open without the leaf.
use Rattle.std.proofs.Common.{◌≡◌, ◌+◌, ◌-◌, length}
use Rattle.markdown_plain.specs.PassSteps.{ClosesDown}
use Rattle.markdown_plain.proofs.pass.Pass.close_down.Given as goal

abbrev pub invariant-blocks-2 : goal.invariant-blocks-2
invariant-blocks-2 l = record {
  left : length l.self.placing.builder.blocks + l._closed ≡ length l.initial.self.placing.builder.blocks + l.depth;
  closes : ClosesDown l.fn.self l.self (l.depth + (length l.initial.self.placing.builder.blocks - l._closed));
}
