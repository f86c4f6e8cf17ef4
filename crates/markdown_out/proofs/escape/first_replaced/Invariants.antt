-- No byte so far is replaced.
use Rattle.std.proofs.Common.{◌≡◌, ℕ, ◌<◌, ◌≤◌, false, slice_index}
use Rattle.markdown_out.specs.Escaped.{may_be_replaced}
use Rattle.markdown_out.proofs.escape.first_replaced.Given as goal

abbrev pub invariant-loop-at : goal.invariant-loop-at
invariant-loop-at l = (p : ℕ) → l.from ≤ p → p < l.at → may_be_replaced (slice_index l.bytes p) ≡ false
