-- The positions of the multiples of 64 so far are kept, of which this offset is the last.
use Rattle.std.proofs.Common.{◌-◌, ◌≡◌, ◌≤◌, ◌<◌, ◌*◌, ◌+◌, ℕ, Some, length, slice_get}
use Rattle.markdown_positions.specs.Positions.{position_in}
use Rattle.markdown_positions.proofs.positions.samples_of.Given as goal

abbrev pub invariant-samples : goal.invariant-samples
invariant-samples l = record {
  here : l.here ≡ position_in l.bytes l.at;
  order : l.at ≤ length l.bytes;
  count : l.at + 64 ≡ length l.samples.items * 64;
  are : (k : ℕ) → k < length l.samples.items → slice_get l.samples.items k ≡ Some (position_in l.bytes (k * 64));
}

abbrev pub decreases-samples : goal.decreases-samples
decreases-samples l = length l.bytes - l.at
