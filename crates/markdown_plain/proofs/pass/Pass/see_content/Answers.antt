-- The line is recorded.
use Rattle.std.proofs.Common.{rules}
use Rattle.markdown_plain.proofs.BlankStandingLemmas.{placed_stands}
use Rattle.markdown_plain.proofs.pass.Pass.see_content.Goals as goal

pub returns-clause-stands : goal.returns-clause-stands
returns-clause-stands c = λ s blocks places.
    placed_stands s c.args.self.now _ c.args.line.next blocks (search rules) places
