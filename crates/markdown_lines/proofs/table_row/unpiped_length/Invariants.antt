-- No byte so far is a `|`.
use Rattle.std.proofs.Common.{◌≡◌, ℕ, ◌-◌, ◌<◌, ◌≤◌, ◌==◌, false, length, slice_index}
use Rattle.markdown_base.specs.Bytes.{pipe}
use Rattle.markdown_lines.proofs.table_row.unpiped_length.Given as goal

abbrev pub invariant-together : goal.invariant-together
invariant-together l = record {
  within : l.at ≤ length l.bytes;
  none : (p : ℕ) → p < l.at → (slice_index l.bytes p == pipe) ≡ false;
}

abbrev pub decreases-together : goal.decreases-together
decreases-together l = length l.bytes - l.at
