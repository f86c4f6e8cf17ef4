use Rattle.std.proofs.Common.{◌≡◌, length}
use Rattle.markdown_scan.specs.PastSpace.{past_space}
use Rattle.markdown_scan.specs.LineView.{line_left}
use Rattle.markdown_scan.proofs.line_start.LineStart.scan_all_space.Given as goal

-- what is past all the space is the same
abbrev pub invariant-loop : goal.invariant-loop
invariant-loop l = record {
  none_owed : l.self.owed ≡ 0;
  value : past_space (line_left l.fn.self) ≡ past_space (line_left l.self);
}

abbrev pub decreases-loop : goal.decreases-loop
decreases-loop l = length (line_left l.self).bytes
