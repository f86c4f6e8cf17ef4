-- What was passed over going back is the one byte.
use Rattle.std.proofs.Common.{◌≤◌}
use Rattle.std.specs.Prelude.{◌==◌}
use Rattle.std.specs.Str.{IsCharBoundary}
use Rattle.markdown_lines.specs.Lines.{AllPass}
use Rattle.markdown_lines.proofs.line.run_start.Given as goal

abbrev pub invariant-run : goal.invariant-run
invariant-run l = record {
  low : l.from ≤ l.start;
  high : l.start ≤ l.stop;
  boundary : IsCharBoundary l.text l.start;
  passes : AllPass (λ b. b == l.byte) l.text l.start l.stop;
}

abbrev pub decreases-run : goal.decreases-run
decreases-run l = l.start
