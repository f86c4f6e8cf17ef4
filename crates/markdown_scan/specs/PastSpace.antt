-- The line after all the space that comes next.
use Rattle.std.specs.Prelude.{ℕ, ◌+◌, ◌==◌, List, [], ◌∷◌, if◌then◌else◌}
use Rattle.markdown_scan.specs.LineStart.{LineLeft, space_width, column_after}

-- the line after all the space that comes next, if no column is owed
abbrev pub past_space_from : ℕ → ℕ → List ℕ → LineLeft
past_space_from scanned column [] = record { scanned = scanned; owed = 0; column = column; bytes = [] }
past_space_from scanned column (b ∷ bytes) =
    if space_width column b == 0 then record { scanned = scanned; owed = 0; column = column; bytes = b ∷ bytes }
    else past_space_from (scanned + 1) (column_after column b) bytes

-- the line after all the space that comes next
abbrev pub past_space : LineLeft → LineLeft
past_space left = past_space_from left.scanned left.column left.bytes
