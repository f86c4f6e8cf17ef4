-- All bytes so far are the run's.
use Rattle.std.proofs.Common.{◌≡◌, ℕ, ◌<◌, ◌≤◌, slice_index}
use Rattle.markdown_items.proofs.delimiter_run.run_end.Given as goal

abbrev pub invariant-loop-stop : goal.invariant-loop-stop
invariant-loop-stop l = (p : ℕ) → l.at ≤ p → p < l.stop → slice_index l.text p ≡ slice_index l.text l.at
