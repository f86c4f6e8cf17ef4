-- Positions before the end are small.
use Rattle.std.proofs.Common.{arith}
use Rattle.markdown_positions.proofs.PositionsLemmas.{small}
use Rattle.markdown_positions.proofs.positions.walk.Goals as goal

pub next_position-here-requires-clause-small : goal.next_position-here-requires-clause-small
next_position-here-requires-clause-small c =
    small c.args.bytes.now c.walk.at c.walk.here c.walk.invariant.here
    (omega (arith, c.walk-test.true, c.requires.order)) c.requires.few
