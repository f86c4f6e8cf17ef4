-- The rows of tables: where a line is cut into cells, and the delimiter row with the alignments of the columns.
use Rattle.std.specs.Prelude.{◌≡◌, ◌≤◌, ℕ, ◌+◌, Bool, true, false, not, ◌==◌, ◌&&◌, ◌||◌, nat_lt, List, [], ◌∷◌, Option}
use Rattle.std.specs.Prelude.{Some, None, length, take, drop, codes, slice_range, if◌then◌else◌}
use Rattle.std.specs.List.{list_all, list_any, prefix_len}
use Rattle.markdown_base.specs.Bytes.{backslash, colon, form_feed, hyphen, line_tabulation, pipe}
use Rattle.markdown_base.specs.declared.tag.Alignment.{Alignment}
use Rattle.markdown_base.specs.declared.tag.Alignment.TheVariants as align
use Rattle.markdown_lines.specs.declared.table_row.Cell.{Cell}
use Rattle.markdown_lines.specs.LineBytes.{without_end}
use Rattle.markdown_lines.specs.Lines.{is_space_or_tab}
use Rattle.markdown_scan.specs.Beginnings.{begins_with}

-- white space in rows
abbrev pub is_row_white : ℕ → Bool
is_row_white byte = is_space_or_tab byte || (byte == line_tabulation) || (byte == form_feed)

-- a byte cuts a row: it is a `|`, and the byte before it is no backslash
abbrev pub is_cut : (before byte : ℕ) → Bool
is_cut before byte = (byte == pipe) && not (before == backslash)

-- a byte before the first of some parts
abbrev pub onto_first : ℕ → List (List ℕ) → List (List ℕ)
onto_first byte [] = []
onto_first byte (part ∷ parts) = (byte ∷ part) ∷ parts

-- the parts of bytes between the cuts, where this byte is before them
unfoldable pub parts_after : (before : ℕ) → List ℕ → List (List ℕ)
parts_after before [] = [] ∷ []
parts_after before (byte ∷ bytes) =
    if is_cut before byte then [] ∷ parts_after byte bytes else onto_first byte (parts_after byte bytes)

-- what is in a part, without white space around it
abbrev pub content_of_part : List ℕ → List ℕ
content_of_part part = without_end is_row_white (drop (prefix_len is_row_white part) part)

-- the cell that is a part, which begins at a byte offset
abbrev pub cell_over : ℕ → List ℕ → Cell
cell_over start part =
    let from = start + prefix_len is_row_white part in
    record { start = start; end = start + length part; from = from; to = from + length (content_of_part part) }

-- the cells that are these parts; white space alone after the last cut is none
abbrev pub cells_over : ℕ → List (List ℕ) → List Cell
cells_over start [] = []
cells_over start (part ∷ []) = if list_all is_row_white part then [] else cell_over start part ∷ []
cells_over start (part ∷ next ∷ parts) = cell_over start part ∷ cells_over (start + length part + 1) (next ∷ parts)

-- the cells from a byte offset on, at which one begins, by the bytes of the line from there on
abbrev pub cells_from : ℕ → List ℕ → List Cell
cells_from start bytes = cells_over start (parts_after pipe bytes)

-- the cells of a row whose first byte, which is no space or tab, is at a byte offset; a `|` there is before them
abbrev pub row_cells : ℕ → List ℕ → List Cell
row_cells start bytes =
    if begins_with (codes "|") bytes then cells_from (start + 1) (drop 1 bytes) else cells_from start bytes

-- the cells of the row from byte offset `at` on in a line whose content ends before `stop`
abbrev pub row_cells_at : List ℕ → ℕ → ℕ → List Cell
row_cells_at text at stop = row_cells at (slice_range text at stop)

-- the same, from byte offset `at` on, at which a cell begins
abbrev pub cells_left : List ℕ → ℕ → ℕ → List Cell
cells_left text at stop = cells_from at (slice_range text at stop)

-- the first bytes, of this number, are the first part, and what follows the cut after them are the others
pub record IsPart (bytes : List ℕ) (count : ℕ) : Type 0 where
  pub within : count ≤ length bytes
  pub parts : parts_after pipe bytes
      ≡ take count bytes ∷ (if count == length bytes then [] else parts_after pipe (drop (count + 1) bytes))

-- a row has a cut, and so more than one part
abbrev pub has_cut : List ℕ → Bool
has_cut bytes = nat_lt 1 (length (parts_after pipe bytes))

-- the alignment by colons before and after the hyphens
abbrev pub alignment_by : (before after : Bool) → Alignment
alignment_by false false = align.None
alignment_by true false = align.Left
alignment_by false true = align.Right
alignment_by true true = align.Center

-- bytes without a colon at their beginning
abbrev pub past_colon : List ℕ → List ℕ
past_colon bytes = if begins_with (codes ":") bytes then drop 1 bytes else bytes

abbrev pub is_hyphen : ℕ → Bool
is_hyphen byte = byte == hyphen

-- the alignment that a delimiter cell's content stands for: one or more hyphens, with at most one colon on each side
abbrev pub cell_alignment : List ℕ → Option Alignment
cell_alignment content =
    let hyphens = past_colon content in
    let count = prefix_len is_hyphen hyphens in
    let after = drop count hyphens in
    if nat_lt 0 count && (length (past_colon after) == 0)
    then Some (alignment_by (begins_with (codes ":") content) (begins_with (codes ":") after)) else None

-- one alignment before others, where all are there
abbrev pub before_alignments : Option Alignment → Option (List Alignment) → Option (List Alignment)
before_alignments None others = None
before_alignments (Some alignment) None = None
before_alignments (Some alignment) (Some others) = Some (alignment ∷ others)

-- the alignments that cells stand for, if each does
abbrev pub cell_alignments : List ℕ → List Cell → Option (List Alignment)
cell_alignments text [] = Some []
cell_alignments text (cell ∷ cells) =
    before_alignments (cell_alignment (slice_range text cell.from cell.to)) (cell_alignments text cells)

-- a `|` or a colon, of which a delimiter row has one at least
abbrev pub is_delimiter_mark : ℕ → Bool
is_delimiter_mark byte = (byte == pipe) || (byte == colon)

-- the alignments of the delimiter row from byte offset `at` on in a line whose content ends before `stop`
abbrev pub delimiter_row_at : List ℕ → ℕ → ℕ → Option (List Alignment)
delimiter_row_at text at stop =
    let cells = row_cells_at text at stop in
    if list_any is_delimiter_mark (slice_range text at stop) && not (length cells == 0)
    then cell_alignments text cells else None

-- The number of bytes of a cell's content before the first two backslashes that are both in no item: the first escapes
-- the second, which is directly before a `|`. Where there are no such two, it is that of all bytes.
unfoldable pub piece_length : List ℕ → ℕ
piece_length [] = 0
piece_length (byte ∷ []) = 1
piece_length (byte ∷ next ∷ bytes) =
    if not (byte == backslash) then 1 + piece_length (next ∷ bytes)
    else if (next == backslash) && begins_with (codes "|") bytes then 0
    else 2 + piece_length bytes
