-- Places in the lines of a paragraph, for private clauses: the number of a line, and a byte offset of the text.
use Rattle.std.specs.Prelude.{◌≡◌, ℕ, zero, suc, ◌+◌, ◌-◌, ◌≤◌, ◌<◌, ◌==◌, List, [], ◌∷◌, Option, Some, None}
use Rattle.std.specs.Prelude.{true, codes, ◌++◌, length, take, drop, slice_get, option_and_then, if◌then◌else◌}
use Rattle.markdown_scan.specs.Beginnings.{begins_with}
use Rattle.markdown_scan.specs.Destination.{destination}
use Rattle.std.specs.Borrow.{Bor}
use Rattle.std.specs.Str.{IsCharBoundary}
use Rattle.markdown_lines.specs.declared.definition.Spot.{Spot}
use Rattle.markdown_lines.specs.declared.held_line.HeldLine.{HeldLine}
use Rattle.markdown_lines.specs.HeldLines.{AreHeldLines, held_text}

-- the number of bytes of the lines' text before a byte offset in the line with a number
abbrev pub count_before : List HeldLine → ℕ → ℕ → ℕ
count_before [] number at = 0
count_before (line ∷ lines) zero at = at - line.start
count_before (line ∷ lines) (suc number) at = (line.next - line.start) + count_before lines number at

-- the same, before a spot
abbrev pub count_to : List HeldLine → Spot → ℕ
count_to lines spot = count_before lines spot.line spot.at

-- the lines' text from a spot on
abbrev pub rest_at : List ℕ → List HeldLine → Spot → List ℕ
rest_at text lines spot = drop (count_to lines spot) (held_text text lines)

-- a spot is in the content of one of the lines of a paragraph, or at its end
pub record IsPlace (text : List ℕ) (lines : List HeldLine) (spot : Spot) : Type 0 where
  pub held : AreHeldLines text lines
  pub line : HeldLine
  pub there : slice_get lines spot.line ≡ Some line
  pub low : line.start ≤ spot.at
  pub high : spot.at ≤ line.stop
  pub boundary : IsCharBoundary text spot.at

-- a spot that is so many bytes after another
pub record IsPast (text : List ℕ) (lines : List HeldLine) (spot : Spot) (bytes : ℕ) (after : Spot) : Type 0 where
  pub place : IsPlace text lines after
  pub count : count_to lines after ≡ count_to lines spot + bytes

-- a spot is at the beginning of the line after the one with a number
pub record IsNextLine (lines : List HeldLine) (number : ℕ) (after : Spot) : Type 0 where
  pub line : HeldLine
  pub there : slice_get lines after.line ≡ Some line
  pub on : after.line ≡ suc number
  pub starts : after.at ≡ line.start

-- a spot in a line, after its first byte
pub record IsEnd (text : List ℕ) (lines : List HeldLine) (spot : Spot) : Type 0 where
  pub place : IsPlace text lines spot
  pub past : place.line.start < spot.at

-- the destination that bytes begin with, if it is not empty: its length, and its text
abbrev pub some_destination : List ℕ → Option (ℕ × List ℕ)
some_destination bytes =
    option_and_then (λ found. if found.0 == 0 then None else Some found) (destination 32 bytes)

-- the same, by the spot after it
abbrev pub destination_found : List HeldLine → Spot → Bor (List ℕ) × Spot → ℕ × List ℕ
destination_found lines start found = (count_to lines found.1 - count_to lines start, found.0.now)

-- bytes are the rest of a line from a spot on, and another spot is at the beginning of the next line
pub record IsLineRest (text : List ℕ) (lines : List HeldLine) (from : Spot) (bytes : List ℕ) (next : Spot)
    : Type 0 where
  pub place : IsPlace text lines next
  pub starts : next.at ≡ place.line.start
  pub count : count_to lines next ≡ count_to lines from + length bytes
  pub rest : rest_at text lines from ≡ bytes ++ rest_at text lines next

-- two places, the second no nearer than the first
pub record IsBetween (text : List ℕ) (lines : List HeldLine) (from to : Spot) : Type 0 where
  pub begins : IsPlace text lines from
  pub ends : IsPlace text lines to
  pub order : from.line ≤ to.line
  pub here : from.line ≡ to.line → from.at ≤ to.at

-- the lines' text from one place up to another
abbrev pub held_between : List ℕ → List HeldLine → Spot → Spot → List ℕ
held_between text lines from to = take (count_to lines to - count_to lines from) (rest_at text lines from)

-- a spot is before a byte of the lines' text, so many bytes after its beginning
pub record IsSpotAfter (lines : List HeldLine) (bytes : ℕ) (spot : Spot) : Type 0 where
  pub line : HeldLine
  pub there : slice_get lines spot.line ≡ Some line
  pub low : line.start ≤ spot.at
  pub high : spot.at < line.next
  pub count : count_to lines spot ≡ bytes

-- a colon follows so many bytes of the lines' text, and a spot follows the colon
pub record IsPastColon (text : List ℕ) (lines : List HeldLine) (bytes : ℕ) (after : Spot) : Type 0 where
  pub colon : begins_with (codes ":") (drop bytes (held_text text lines)) ≡ true
  pub place : IsPlace text lines after
  pub count : count_to lines after ≡ bytes + 1
