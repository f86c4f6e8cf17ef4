-- The bytes are stepped over.
use Rattle.std.proofs.Common.{ap}
use Rattle.markdown_builder.specs.Standing.{standpoint}
use Rattle.markdown_builder.proofs.CallLemmas.{skip_keeps}
use Rattle.markdown_builder.proofs.builder.Builder.skip.Goals as goal

pub invariant_of-self : goal.invariant_of-self
invariant_of-self c = (
  skip_keeps (standpoint c.args.self.now) c.args.to c.self.invariant.0
      (ap standpoint c.self.view_is) c.requires.low c.requires.boundary c.requires.white,
  c.self.invariant.1,
)
