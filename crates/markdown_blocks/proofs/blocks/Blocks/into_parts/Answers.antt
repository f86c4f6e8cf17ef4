-- What is given is what is held.
use Rattle.std.proofs.Common.{refl}
use Rattle.markdown_blocks.proofs.blocks.Blocks.into_parts.Goals as goal

pub returns-clause-parts : goal.returns-clause-parts
returns-clause-parts c = (refl, refl, refl, refl)

pub returns-clause-rules : goal.returns-clause-rules
returns-clause-rules c = c.args.self.well_formed
