-- No byte so far is special.
use Rattle.std.proofs.Common.{◌≡◌, ℕ, ◌-◌, ◌<◌, ◌≤◌, false, length, slice_index}
use Rattle.markdown_items.specs.LineItems.{is_special}
use Rattle.markdown_items.proofs.special.scan_to_special.Given as goal

abbrev pub invariant-plain : goal.invariant-plain
invariant-plain l = record {
  low : l.from ≤ l.start;
  high : l.start ≤ length l.bytes;
  plain : (p : ℕ) → l.from ≤ p → p < l.start → is_special l.dashes (slice_index l.bytes p) ≡ false;
}

abbrev pub decreases-plain : goal.decreases-plain
decreases-plain l = l.end - l.start
