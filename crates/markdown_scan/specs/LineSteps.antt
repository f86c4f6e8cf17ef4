-- The step over one space or tab at the beginning of a line, for private clauses: `LineStart` defines what is read.
use Rattle.std.specs.Prelude.{ℕ, ◌+◌, ◌-◌, ◌==◌, List, [], ◌∷◌, if◌then◌else◌}
use Rattle.markdown_scan.specs.LineStart.{LineLeft, space_width, column_after}

-- the columns of the space or tab that the bytes begin with
abbrev pub width_of : ℕ → List ℕ → ℕ
width_of column [] = 0
width_of column (b ∷ bytes) = space_width column b

-- the line after the first byte, of which at most `most` columns are read
abbrev pub past_first : ℕ → ℕ → ℕ → List ℕ → LineLeft
past_first most scanned column [] = record { scanned = scanned; owed = 0; column = column; bytes = [] }
past_first most scanned column (b ∷ bytes) =
    if space_width column b == 0 then record { scanned = scanned; owed = 0; column = column; bytes = b ∷ bytes }
    else record {
      scanned = scanned + 1;
      owed = space_width column b - most;
      column = column_after column b;
      bytes =
          bytes;
    }

-- the columns of the space or tab that comes next
abbrev pub width_next : LineLeft → ℕ
width_next left = width_of left.column left.bytes

-- the line after the space or tab that comes next, of which at most `most` columns are read
abbrev pub past_white : ℕ → LineLeft → LineLeft
past_white most left = past_first most left.scanned left.column left.bytes
