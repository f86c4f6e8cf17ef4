-- The bytes so far are those of the lines before this one.
use Rattle.std.proofs.Common.{◌-◌, ◌<◌, ◌^◌, length, ℕ, List}
use Rattle.markdown_lines.specs.HeldLines.{AreHeldLines}
use Rattle.markdown_lines.proofs.AfterLabelLemmas.{Counts}
use Rattle.markdown_lines.proofs.definition.spot_after.Given as goal

abbrev pub invariant-lines : goal.invariant-lines
invariant-lines l =
    (text : List ℕ) → length text < 2 ^ 64 → AreHeldLines text l.lines
    → Counts text l.lines l.count l.number l.left

abbrev pub decreases-lines : goal.decreases-lines
decreases-lines l = length l.lines - l.number
