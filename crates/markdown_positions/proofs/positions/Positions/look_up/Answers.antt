-- The position of the last multiple of 64 is kept.
use Rattle.std.proofs.Common.{◌≤◌, ◌*◌, ◌/◌, arith, length}
use Rattle.markdown_positions.proofs.PositionsLemmas.{not_past}
use Rattle.markdown_positions.proofs.positions.Positions.look_up.Goals as goal

pub returns-in-None : goal.returns-in-None
returns-in-None c =
    let place = rw c.in-None.is at c.get.ensures.lookup in
    let within : (c.min-at.result / 64) * 64 ≤ length c.args.self.now.bytes.now = omega (arith, c.min-at.ensures) in
    absurd (not_past c.args.self.now.bytes.now c.args.self.now.samples.items (c.min-at.result / 64)
    c.args.self.now.sampled within (rw (← c.deref.ensures.value) place.3))
