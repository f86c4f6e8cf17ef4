-- No byte so far is special.
use Rattle.std.proofs.Common.{◌≡◌, ℕ, ◌<◌, false, slice_index}
use Rattle.markdown_items.specs.LineItems.{is_special}
use Rattle.markdown_items.proofs.special.length_before_special.Given as goal

abbrev pub invariant-loop-at : goal.invariant-loop-at
invariant-loop-at l = (p : ℕ) → p < l.at → is_special l.dashes (slice_index l.bytes p) ≡ false
