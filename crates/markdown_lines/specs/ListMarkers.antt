-- List markers (CommonMark 5.2), by the bytes of a line.
use Rattle.std.specs.Prelude.{ℕ, ◌+◌, ◌-◌, ◌*◌, Bool, not, ◌==◌, ◌&&◌, ◌||◌, nat_lt, List, [], ◌∷◌, Option, Some, None}
use Rattle.std.specs.Prelude.{take, drop, slice_range, if◌then◌else◌}
use Rattle.std.specs.Char.{is_ascii_digit}
use Rattle.std.specs.List.{fold, list_all, prefix_len}
use Rattle.markdown_base.specs.Bytes.{asterisk, close_parenthesis, full_stop, hyphen, plus_sign}
use Rattle.markdown_lines.specs.declared.list_marker.ListMarker.{ListMarker}
use Rattle.markdown_lines.specs.Lines.{is_space_or_tab}
use Rattle.markdown_lines.specs.LineBytes.{is_parted}

-- the number that digits spell
abbrev pub decimal : List ℕ → ℕ
decimal digits = fold (λ number digit. number * 10 + (digit - 48)) 0 digits

-- a bullet: `-`, `+` or `*`
abbrev pub is_bullet : ℕ → Bool
is_bullet byte = (byte == hyphen) || (byte == plus_sign) || (byte == asterisk)

-- what ends the marker of an ordered list: a `.` or a `)`
abbrev pub ends_number : ℕ → Bool
ends_number byte = (byte == full_stop) || (byte == close_parenthesis)

-- the marker of an ordered list, from `count` digits and what follows them: one to nine digits, and a `.` or `)`
abbrev pub ordered_marker_of : List ℕ → List ℕ → ℕ → Option ListMarker
ordered_marker_of digits [] count = None
ordered_marker_of digits (byte ∷ rest) count =
    if (count == 0) || nat_lt 9 count || not (ends_number byte) then None
    else Some (record { character = byte; first = decimal digits; width = count + 1 })

-- the marker of an ordered list that bytes begin with
abbrev pub ordered_marker : List ℕ → Option ListMarker
ordered_marker bytes =
    let count = prefix_len is_ascii_digit bytes in ordered_marker_of (take count bytes) (drop count bytes) count

-- the marker that bytes begin with, whatever follows it
abbrev pub marker_of : List ℕ → Option ListMarker
marker_of [] = None
marker_of (byte ∷ bytes) =
    if is_bullet byte then Some (record { character = byte; first = 0; width = 1 }) else ordered_marker (byte ∷ bytes)

-- a marker that may interrupt a paragraph: that of a bullet list, or the number 1 of an ordered list
abbrev pub may_interrupt : ListMarker → Bool
may_interrupt marker = not (ends_number marker.character) || (marker.first == 1)

-- white space or nothing follows the marker, and where it interrupts a paragraph, it may do so, and its item is not
-- blank
abbrev pub stands_before : ListMarker → List ℕ → Bool → Bool
stands_before marker after interrupts =
    is_parted after && (not interrupts || (may_interrupt marker && not (list_all is_space_or_tab after)))

-- the marker, where what follows it in a line's content allows it
abbrev pub if_it_stands : Option ListMarker → List ℕ → Bool → Option ListMarker
if_it_stands None content interrupts = None
if_it_stands (Some marker) content interrupts =
    if stands_before marker (drop marker.width content) interrupts then Some marker else None

-- the list marker at byte offset `at` in a line whose content ends before `stop`
abbrev pub list_marker_at : List ℕ → ℕ → ℕ → Bool → Option ListMarker
list_marker_at text at stop interrupts =
    let content = slice_range text at stop in if_it_stands (marker_of content) content interrupts
