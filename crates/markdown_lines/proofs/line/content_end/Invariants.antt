-- What was passed over going back is spaces and tabs.
use Rattle.std.proofs.Common.{◌≤◌}
use Rattle.std.specs.Str.{IsCharBoundary}
use Rattle.markdown_lines.specs.Lines.{is_space_or_tab, AllPass}
use Rattle.markdown_lines.proofs.line.content_end.Given as goal

abbrev pub invariant-trim : goal.invariant-trim
invariant-trim l = record {
  low : l.from ≤ l.end;
  high : l.end ≤ l.stop;
  boundary : IsCharBoundary l.text l.end;
  passes : AllPass is_space_or_tab l.text l.end l.stop;
}

abbrev pub decreases-trim : goal.decreases-trim
decreases-trim l = l.end
