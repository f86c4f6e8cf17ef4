-- Lines of code and HTML blocks: what is left of a line from a place on, and where it ends.
use Rattle.std.specs.Prelude.{ℕ, max, Bool, ◌==◌, ◌&&◌, nat_lt, List, codes, slice_range, if◌then◌else◌}
use Rattle.markdown_scan.specs.LineStart.{LineLeft, leading_space}
use Rattle.markdown_lines.specs.declared.fence.Fence.{Fence}
use Rattle.markdown_lines.specs.declared.held_line.HeldLine.{HeldLine}
use Rattle.markdown_lines.specs.declared.html_kind.HtmlKind.{HtmlKind}
use Rattle.markdown_lines.specs.declared.line.Line.{Line}
use Rattle.markdown_lines.specs.declared.position.Position.{Position}
use Rattle.markdown_lines.specs.CodeFences.{closes_fence}
use Rattle.markdown_lines.specs.HtmlKinds.{ends_in}
use Rattle.markdown_lines.specs.Positions.{left_from}

-- the byte offset after a line whose rest begins at `start`
abbrev pub after_line : ℕ → ℕ → ℕ
after_line start next = max start next

-- the rest of a line after at most this many columns of space, from a place on
abbrev pub code_after : List ℕ → Position → Line → ℕ → LineLeft
code_after text position line columns = (leading_space columns (left_from text position line.stop)).after

-- a whole line
abbrev pub whole_of : Line → HeldLine
whole_of line = record { start = line.start; stop = line.stop; next = line.next; owed = 0 }

-- the rest of a line from a place on
abbrev pub rest_from : Line → Position → HeldLine
rest_from line position = record { start = position.at; stop = line.stop; next = line.next; owed = position.owed }

-- a fence that closes a code block follows less than four columns of space, from a place on
abbrev pub is_closed_at : List ℕ → Position → Line → Fence → Bool
is_closed_at text position line fence =
    nat_lt (leading_space 4 (left_from text position line.stop)).columns 4
    && closes_fence text (code_after text position line 4).scanned line.stop fence

-- the columns that a partly read tab owes, one to three, as spaces
abbrev pub owed_spaces : ℕ → List ℕ
owed_spaces columns =
    if columns == 1 then codes " " else if columns == 2 then codes "  " else codes "   "

-- the rest of a line from a place on ends an HTML block of this kind
abbrev pub ends_html_at : List ℕ → Position → Line → HtmlKind → Bool
ends_html_at text position line kind = ends_in kind (slice_range text position.at line.stop)
