-- The place is in the first half.
use Rattle.std.proofs.Common.{◌≤◌, ◌/◌, length}
use Rattle.markdown_entities.proofs.named_entity.middle_row.Given as goal

abbrev pub invariant-loop-start : goal.invariant-loop-start
invariant-loop-start l = l.start ≤ length l.rows / 2

abbrev pub decreases-loop-start : goal.decreases-loop-start
decreases-loop-start l = l.start
