use Rattle.std.proofs.Common.{◌≡◌, ◌≤◌, ◌+◌, length, drop, false}
use Rattle.markdown_scan.specs.LabelScan.{end_after, found_in}
use Rattle.markdown_scan.proofs.label_end.label_end.Given as goal

-- the rest begins at the byte `at`, and the whole label ends after what was read
abbrev pub invariant-loop-first : goal.invariant-loop-first
invariant-loop-first g l = record {
  sum : l.at + length l.rest ≡ length l.bytes;
  here : l.rest ≡ drop l.at l.bytes;
  few : l.characters ≤ 999;
  value : end_after 0 0 false (found_in (g.R.LineRule.skipped l.rule) l.in_table false l.bytes)
      ≡ end_after l.at l.characters l.solid (found_in (g.R.LineRule.skipped l.rule) l.in_table l.escaped l.rest);
}

abbrev pub decreases-loop-first : goal.decreases-loop-first
decreases-loop-first g l = length l.rest
