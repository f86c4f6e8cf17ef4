-- Tables, where the syntax has them: which line of a paragraph is the head of one, and which lines are rows.
use Rattle.std.specs.Prelude.{ℕ, ◌-◌, ◌+◌, Bool, true, false, not, ◌==◌, ◌&&◌, ◌||◌, nat_lt, List, [], ◌∷◌}
use Rattle.std.specs.Prelude.{◌++◌, Option}
use Rattle.std.specs.Prelude.{Some, None, length, max, codes, if◌then◌else◌}
use Rattle.std.specs.List.{list_all}
use Rattle.std.specs.Option.{is_some}
use Rattle.markdown_base.specs.declared.tag.Alignment.{Alignment}
use Rattle.markdown_lines.specs.declared.block_start.Before.TheVariants as paragraph
use Rattle.markdown_lines.specs.declared.table_row.Cell.{Cell}
use Rattle.markdown_lines.specs.BlockBeginnings as line
use Rattle.markdown_base.specs.Source.{Source}
use Rattle.markdown_lines.specs.BlockBeginnings.{Beginning, begins}
use Rattle.markdown_lines.specs.DefinitionRules.{divided}
use Rattle.markdown_lines.specs.SourceLines.{SourceLine, stop_of, text_line}
use Rattle.markdown_lines.specs.TableRows.{delimiter_row_at, has_cut, row_cells}
use Rattle.markdown_scan.specs.Beginnings.{begins_with}
use Rattle.markdown_scan.specs.Entity.{entity_names}
use Rattle.markdown_scan.specs.LineStart.{leading_space}

-- tables are read
abbrev pub reads_tables : Source → Bool
reads_tables s = s.syntax.tables

-- a further line of a paragraph that it reaches, with its indentation where tables are read
abbrev pub further_line : Source → SourceLine → SourceLine
further_line s l =
    if reads_tables s then record (text_line l) { indent = Some (leading_space 4 l.left).columns } else text_line l

-- the cells of the row that a line is, from its first byte that is not white space on
abbrev pub cells_of : SourceLine → List Cell
cells_of l = row_cells l.left.scanned l.left.bytes

-- a further line is not lazy, and has at most three columns of space before it
abbrev pub is_near : Option ℕ → Bool
is_near None = false
is_near (Some columns) = nat_lt columns 4

-- the alignments of the delimiter row that a further line of a paragraph is
abbrev pub delimiter_row_of : Source → SourceLine → Option (List Alignment)
delimiter_row_of s l = if is_near l.indent then delimiter_row_at s.text l.left.scanned (stop_of l) else None

-- these alignments, if there are as many
abbrev pub as_many : ℕ → Option (List Alignment) → Option (List Alignment)
as_many count None = None
as_many count (Some alignments) = if length alignments == count then Some alignments else None

-- the alignments of the delimiter row that a line is, for the line before it: that one has a cut, and as many cells
abbrev pub fitting : Source → (head row : SourceLine) → Option (List Alignment)
fitting s head row = if has_cut head.left.bytes then as_many (length (cells_of head)) (delimiter_row_of s row) else None

-- of two further lines, one after the other, the second is a delimiter row for the first
abbrev pub hold_fitting : Source → List SourceLine → Bool
hold_fitting s [] = false
hold_fitting s (head ∷ []) = false
hold_fitting s (head ∷ row ∷ lines) =
    (is_some head.indent && is_some (fitting s head row)) || hold_fitting s (row ∷ lines)

-- the line that comes after these of a paragraph is its first: of those, if there are any, nothing is left
abbrev pub is_first_after : List SourceLine → Bool
is_first_after before = list_all (λ l. length l.left.bytes == 0) before

-- a line begins with a `|`, after at most three columns of space
abbrev pub is_led : SourceLine → Bool
is_led l = is_near l.indent && begins_with (codes "|") l.left.bytes

-- only definitions come before a line, which is tried once in a paragraph: not where lines before it have fitted
abbrev pub is_after_definitions : Source → List SourceLine → SourceLine → Bool
is_after_definitions s before head =
    not (hold_fitting s (before ++ head ∷ []))
    && (length (divided (entity_names s.syntax) s.text before).lines == 0)

-- a line of a paragraph may be a table's head, after these lines of it
abbrev pub may_be_head : Source → List SourceLine → SourceLine → Bool
may_be_head s before head =
    (length before == 0)
    || (is_some head.indent && (is_first_after before || is_led head || is_after_definitions s before head))

-- the alignments of the table that a line begins as its delimiter row, after the head and the lines before that
abbrev pub alignments_for : Source → SourceLine → (before : List SourceLine) → (head : SourceLine)
    → Option (List Alignment)
alignments_for s l before head =
    if may_be_head s before head then fitting s head (further_line s l) else None

abbrev pub is_text_beginning : Beginning → Bool
is_text_beginning line.begins_text = true
is_text_beginning other = false

-- a line that is not blank, from its first byte that is not white space on, is a row: it has a cell, and begins nothing
-- that would end a paragraph lazily
abbrev pub is_row : Source → SourceLine → Bool
is_row s l = is_text_beginning (begins s paragraph.Lazy l) && not (length (cells_of l) == 0)

-- the number of empty cells that are added to the end of a row in a table of this many columns
abbrev pub cells_added : ℕ → SourceLine → ℕ
cells_added columns row = columns - length (cells_of row)

abbrev pub all_added : ℕ → List SourceLine → ℕ
all_added columns [] = 0
all_added columns (row ∷ rows) = cells_added columns row + all_added columns rows

-- the most cells that are added to the rows of a text
abbrev pub most_added : List ℕ → ℕ
most_added text = max (length text) 1000
