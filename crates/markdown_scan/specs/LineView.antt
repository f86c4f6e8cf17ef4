-- The line that a `LineStart` has left.
use Rattle.std.specs.Prelude.{drop}
use Rattle.markdown_scan.specs.declared.line_start.LineStart.{LineStart}
use Rattle.markdown_scan.specs.LineStart.{LineLeft}

-- the rest of the line
abbrev pub line_left : LineStart → LineLeft
line_left line = record {
  scanned = line.scanned;
  owed = line.owed;
  column = line.column;
  bytes = drop line.scanned line.line.now;
}
