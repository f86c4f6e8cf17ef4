use Rattle.std.proofs.Common.{◌≡◌, ◌≤◌, ◌<◌, ◌-◌}
use Rattle.markdown_scan.specs.LineStart.{leading_space, wider}
use Rattle.markdown_scan.specs.LineView.{line_left}
use Rattle.markdown_scan.proofs.line_start.LineStart.scan_space_upto.Given as goal

-- the space is what was taken and, after that, what is left of it
abbrev pub invariant-loop-taken : goal.invariant-loop-taken
invariant-loop-taken l = record {
  within : l.taken ≤ l.n;
  none_owed : l.taken < l.n → l.self.owed ≡ 0;
  value : leading_space l.n (line_left l.fn.self) ≡ wider l.taken (leading_space (l.n - l.taken) (line_left l.self));
}

abbrev pub decreases-loop-taken : goal.decreases-loop-taken
decreases-loop-taken l = l.n - l.taken
