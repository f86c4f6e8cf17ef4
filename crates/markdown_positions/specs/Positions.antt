-- The position of a byte offset of a text: its line and its column, both counted from 1. Lines end with a line feed,
-- with a carriage return and a line feed, or with a carriage return alone, and columns count characters.
use Rattle.std.specs.Prelude.{◌+◌, ◌-◌, ◌==◌, ◌&&◌, ◌||◌, ℕ, zero, suc, Bool, not, List, if◌then◌else◌, drop, length}
use Rattle.std.specs.Prelude.{min, nat_lt, nat_le, slice_index}
use Rattle.markdown_positions.specs.declared.position.Position.{Position}

-- that of the beginning
abbrev pub first_position : Position
first_position = record { line = 1; column = 1 }

-- whether a line ends with the byte at this offset: a line feed, or a carriage return that no line feed follows
abbrev pub is_line_end : List ℕ → ℕ → Bool
is_line_end bytes at =
    (slice_index bytes at == 10) || ((slice_index bytes at == 13) && not (slice_index bytes (at + 1) == 10))

-- whether a byte of UTF-8 is the first of a character
abbrev pub is_first_byte : ℕ → Bool
is_first_byte byte = nat_lt byte 128 || nat_le 192 byte

-- the position after the byte at this offset, which has this position: the next line, the next column, or, inside a
-- character, the same
abbrev pub next_position : List ℕ → (at : ℕ) → Position → Position
next_position bytes at position =
    if is_line_end bytes at then record { line = position.line + 1; column = 1 }
    else if is_first_byte (slice_index bytes at) then record { line = position.line; column = position.column + 1 }
    else position

-- the position of an offset of these bytes, without notice of a byte order mark
abbrev pub position_in : List ℕ → ℕ → Position
position_in bytes zero = first_position
position_in bytes (suc at) = next_position bytes at (position_in bytes at)

-- the number of bytes of the byte order mark at the beginning, 0 where there is none
abbrev pub mark_length : List ℕ → ℕ
mark_length bytes =
    if (slice_index bytes 0 == 239) && ((slice_index bytes 1 == 187) && (slice_index bytes 2 == 191)) then 3 else 0

-- the position of an offset of a text, in which its byte order mark is no character; beyond its end, that of its end
abbrev pub position_of : List ℕ → (offset : ℕ) → Position
position_of text offset =
    let rest = drop (mark_length text) text in position_in rest (min (offset - mark_length text) (length rest))
