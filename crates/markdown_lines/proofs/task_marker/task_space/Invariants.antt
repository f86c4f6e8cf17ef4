-- The bytes so far are white space as after a task marker.
use Rattle.std.proofs.Common.{◌≡◌, ◌+◌, drop}
use Rattle.std.specs.List.{prefix_len}
use Rattle.markdown_lines.specs.TaskMarkers.{is_task_space}
use Rattle.markdown_lines.proofs.task_marker.task_space.Given as goal

abbrev pub invariant-loop-at : goal.invariant-loop-at
invariant-loop-at l = prefix_len is_task_space l.bytes ≡ l.at + prefix_len is_task_space (drop l.at l.bytes)
