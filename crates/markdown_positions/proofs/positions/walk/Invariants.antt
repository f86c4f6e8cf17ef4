-- The position is that of the offset.
use Rattle.std.proofs.Common.{◌-◌, ◌≡◌, ◌≤◌}
use Rattle.markdown_positions.specs.Positions.{position_in}
use Rattle.markdown_positions.proofs.positions.walk.Given as goal

abbrev pub invariant-walk : goal.invariant-walk
invariant-walk l = record {
  here : l.here ≡ position_in l.bytes l.at;
  order : l.at ≤ l.to;
}

abbrev pub decreases-walk : goal.decreases-walk
decreases-walk l = l.to - l.at
