-- What is to be read of the line makes the same blocks; each turn goes at least one place on.
use Rattle.markdown_plain.proofs.TurnsLemmas.{KeepsReading}
use Rattle.markdown_plain.proofs.pass.Pass.read_rest.Given as goal

abbrev pub invariant-blocks-2 : goal.invariant-blocks-2
invariant-blocks-2 l = KeepsReading l.fn.self l.self l.fn.rest l.rest l._turn
