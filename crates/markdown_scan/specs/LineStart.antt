-- The beginning of a line, measured in columns (CommonMark 2.2): a tab extends to the next multiple of 4 columns. A tab
-- of which only some columns are read has been scanned, and owes its other columns to the next read.
use Rattle.std.specs.Prelude.{ℕ, ◌+◌, ◌-◌, Bool, true, ◌&&◌, ◌||◌, ◌==◌, nat_le, nat_lt, List, [], ◌∷◌, drop}
use Rattle.std.specs.Prelude.{slice_index, if◌then◌else◌}
use Rattle.markdown_base.specs.Bytes.{carriage_return, greater_than, line_feed, space as space_byte, tab}

-- the rest of a line: the number of bytes scanned, the columns that a partly read tab owes, the column after it,
-- counted from the last tab stop, and the bytes that follow
pub record LineLeft : Type 0 where
  pub scanned : ℕ
  pub owed : ℕ
  pub column : ℕ
  pub bytes : List ℕ

-- a number of columns of space, and the line after them
pub record Space : Type 0 where
  pub columns : ℕ
  pub after : LineLeft

-- the columns of a space or a tab, and 0 for any other byte
abbrev pub space_width : ℕ → ℕ → ℕ
space_width column b = if b == space_byte then 1 else if b == tab then 4 - column else 0

-- the column after a byte of one column, counted from the last tab stop
abbrev pub next_column : ℕ → ℕ
next_column column = if column == 3 then 0 else column + 1

-- the column after a space or a tab, counted from the last tab stop
abbrev pub column_after : ℕ → ℕ → ℕ
column_after column b = if b == tab then 0 else next_column column

-- n more columns before that space
abbrev pub wider : ℕ → Space → Space
wider n leading_space = record { columns = n + leading_space.columns; after = leading_space.after }

-- no column is read
abbrev pub no_space : LineLeft → Space
no_space left = record { columns = 0; after = left }

-- at most n columns of space from these bytes on
abbrev pub space_from : ℕ → ℕ → ℕ → List ℕ → Space
space_from n scanned column [] = no_space (record { scanned = scanned; owed = 0; column = column; bytes = [] })
space_from n scanned column (b ∷ bytes) =
    if (n == 0) || (space_width column b == 0)
    then no_space (record { scanned = scanned; owed = 0; column = column; bytes = b ∷ bytes })
    else if nat_lt n (space_width column b)
    then record {
      columns = n;
      after = record {
        scanned = scanned + 1;
        owed = space_width column b - n;
        column =
            column_after column b;
        bytes = bytes;
      };
    }
    else wider (space_width column b) (space_from (n - space_width column b) (scanned + 1) (column_after column b)
    bytes)

-- at most n columns of space of the line, beginning with those that are owed
abbrev pub leading_space : ℕ → LineLeft → Space
leading_space n left =
    if nat_le n left.owed then record { columns = n; after = record left { owed = left.owed - n } }
    else wider left.owed (space_from (n - left.owed) left.scanned left.column left.bytes)

-- a line feed, a carriage return or the end of the bytes comes next
abbrev pub is_line_over : List ℕ → Bool
is_line_over [] = true
is_line_over (b ∷ bytes) = (b == line_feed) || (b == carriage_return)

-- a block quote marker (CommonMark 5.1) comes next: a `>`
abbrev pub begins_marker : LineLeft → Bool
begins_marker left = (left.owed == 0) && (slice_index left.bytes 0 == greater_than)

-- the line after the `>` that comes next
abbrev pub past_one_byte : LineLeft → LineLeft
past_one_byte left = record {
  scanned = left.scanned + 1;
  owed = 0;
  column = next_column left.column;
  bytes =
      drop 1 left.bytes;
}

-- the line after a block quote marker and at most one column of space
abbrev pub past_marker : LineLeft → LineLeft
past_marker left = (leading_space 1 (past_one_byte left)).after
