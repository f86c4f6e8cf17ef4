-- No byte so far ends the line.
use Rattle.std.proofs.Common.{◌≡◌, ℕ, ◌-◌, ◌<◌, ◌≤◌, false, length, slice_index}
use Rattle.markdown_lines.specs.Lines.{is_line_ending}
use Rattle.markdown_lines.proofs.line.first_line_ending.Given as goal

abbrev pub invariant-content : goal.invariant-content
invariant-content l = record {
  low : l.from ≤ l.start;
  high : l.start ≤ length l.bytes;
  content : (p : ℕ) → l.from ≤ p → p < l.start → is_line_ending (slice_index l.bytes p) ≡ false;
}

abbrev pub decreases-content : goal.decreases-content
decreases-content l = length l.bytes - l.start
