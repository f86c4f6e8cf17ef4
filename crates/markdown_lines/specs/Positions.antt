-- White space from a place in a line on, by columns (CommonMark 2.2), as `LineStart` reads it at the beginning of a
-- line where the same bytes follow, at the same number of columns after the last tab stop.
use Rattle.std.specs.Prelude.{◌≡◌, ℕ, List, slice_range}
use Rattle.markdown_scan.specs.LineStart.{LineLeft, leading_space}
use Rattle.markdown_lines.specs.declared.position.Position.{Position}
use Rattle.markdown_lines.specs.declared.space.Space.{Space}

-- what is left from a place on of a line whose content ends before `stop`
abbrev pub left_from : List ℕ → Position → ℕ → LineLeft
left_from text position stop =
    record {
      scanned = position.at;
      owed = position.owed;
      column = position.column;
      bytes = slice_range text
          position.at stop;
    }

-- the white space read at a place, of at most `most` columns: its columns, and what is left of the line after it
pub record IsSpaceAt (text : List ℕ) (position : Position) (stop most : ℕ) (read : Space) : Type 0 where
  pub columns : read.columns ≡ (leading_space most (left_from text position stop)).columns
  pub after : left_from text read.after stop ≡ (leading_space most (left_from text position stop)).after
