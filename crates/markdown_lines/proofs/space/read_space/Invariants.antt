-- What is read is what was read so far, and what is read after it.
use Rattle.std.proofs.Common.{◌≡◌, ◌+◌, ◌-◌, ◌<◌, ◌≤◌}
use Rattle.markdown_scan.specs.LineStart.{leading_space, wider}
use Rattle.markdown_lines.specs.Positions.{left_from}
use Rattle.markdown_lines.proofs.space.read_space.Given as goal

abbrev pub invariant-white : goal.invariant-white
invariant-white l = record {
  at : l.found.after.at ≡ l.fn.position.at + l.byte-index;
  few : l.found.columns ≤ l.most;
  none_owed : l.found.columns < l.most → l.found.after.owed ≡ 0;
  value : leading_space l.most (left_from l.text l.fn.position l.stop)
      ≡ wider l.found.columns (leading_space (l.most - l.found.columns) (left_from l.text l.found.after l.stop));
}
