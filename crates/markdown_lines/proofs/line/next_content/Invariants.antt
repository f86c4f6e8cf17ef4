-- What was passed over is blank.
use Rattle.std.specs.Str.{IsCharBoundary}
use Rattle.markdown_lines.specs.Lines.{is_in_blank_line, AllPass}
use Rattle.markdown_lines.proofs.line.next_content.Given as goal

abbrev pub invariant-loop-i : goal.invariant-loop-i
invariant-loop-i l = record {
  boundary : IsCharBoundary l.text l.i;
  passes : AllPass is_in_blank_line l.text l.from l.i;
}
