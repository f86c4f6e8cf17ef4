-- No byte so far ends the line.
use Rattle.std.proofs.Common.{◌≡◌, ℕ, ◌<◌, false, slice_index}
use Rattle.markdown_lines.specs.Lines.{is_line_ending}
use Rattle.markdown_lines.proofs.line.length_before_ending.Given as goal

abbrev pub invariant-loop-at : goal.invariant-loop-at
invariant-loop-at l = (p : ℕ) → p < l.at → is_line_ending (slice_index l.bytes p) ≡ false
