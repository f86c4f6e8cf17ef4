-- All bytes so far are that byte.
use Rattle.std.proofs.Common.{◌≡◌, ℕ, ◌<◌, ◌≤◌, slice_index}
use Rattle.markdown_builder.proofs.run_bytes.run_end.Given as goal

abbrev pub invariant-loop-end : goal.invariant-loop-end
invariant-loop-end l = (p : ℕ) → l.from ≤ p → p < l.end → slice_index l.text p ≡ l.byte
