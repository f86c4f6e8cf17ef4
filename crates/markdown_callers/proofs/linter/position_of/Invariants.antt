use Rattle.std.proofs.Common.{◌≡◌, ◌+◌, ◌≤◌}
use Rattle.markdown_callers.specs.Linter.{bytes_before_in_line, lines_before}
use Rattle.markdown_callers.proofs.linter.position_of.Given as goal

-- how many lines have ended, and where the current line begins
abbrev pub invariant-loop-at : goal.invariant-loop-at
invariant-loop-at l = record {
  lines : l.line ≡ lines_before l.bytes l.at + 1;
  few : l.line ≤ l.at + 1;
  begins : l.line_start + bytes_before_in_line l.bytes l.at ≡ l.at;
}
