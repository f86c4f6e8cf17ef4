-- The lines of a text, and the runs of bytes at their ends.
use Rattle.std.specs.Prelude.{◌≡◌, ℕ, suc, ◌+◌, ◌<◌, ◌≤◌, Bool, true, false, ◌==◌, ◌||◌, List, Option, Some, None}
use Rattle.std.specs.Prelude.{length, drop, slice_index}
use Rattle.std.specs.Str.{IsCharBoundary}
use Rattle.markdown_base.specs.Bytes.{carriage_return, line_feed, space, tab}
use Rattle.markdown_scan.specs.LineEnd.{line_ending}
use Rattle.markdown_lines.specs.declared.line.Line.{Line}

-- a space or a tab
abbrev pub is_space_or_tab : ℕ → Bool
is_space_or_tab byte = (byte == space) || (byte == tab)

-- the first byte of a line ending: a line feed or a carriage return
abbrev pub is_line_ending : ℕ → Bool
is_line_ending byte = (byte == line_feed) || (byte == carriage_return)

-- one of the bytes that blank lines are made of
abbrev pub is_in_blank_line : ℕ → Bool
is_in_blank_line byte = is_space_or_tab byte || is_line_ending byte

-- each byte from one offset up to another passes a test
abbrev pub AllPass : (ℕ → Bool) → List ℕ → ℕ → ℕ → Type 0
AllPass test text from to = (at : ℕ) → from ≤ at → at < to → test (slice_index text at) ≡ true

-- `found` is the offset of the first byte from `from` on that fails a test, or the end of the text
pub record IsFirstOther (test : ℕ → Bool) (text : List ℕ) (from found : ℕ) : Type 0 where
  pub low : from ≤ found
  pub boundary : IsCharBoundary text found
  pub passes : AllPass test text from found
  pub stops : found < length text → test (slice_index text found) ≡ false

-- the run of bytes before `stop` that pass a test begins at `start`, not before `from`
pub record IsRunBefore (test : ℕ → Bool) (text : List ℕ) (from stop start : ℕ) : Type 0 where
  pub low : from ≤ start
  pub high : start ≤ stop
  pub boundary : IsCharBoundary text start
  pub passes : AllPass test text start stop
  pub stops : (before : ℕ) → start ≡ suc before → from < start → test (slice_index text before) ≡ false

-- the offset of the first byte from `from` on that cannot be in a blank line, or nothing where there is none
abbrev pub IsNextContent : List ℕ → ℕ → Option ℕ → Type 0
IsNextContent text from None = AllPass is_in_blank_line text from (length text)
IsNextContent text from (Some found) = (found < length text) × IsFirstOther is_in_blank_line text from found

-- `found` is the offset of the first byte from `from` on that begins a line ending, or the end
pub record IsLineEnd (text : List ℕ) (from found : ℕ) : Type 0 where
  pub low : from ≤ found
  pub high : found ≤ length text
  pub content : (at : ℕ) → from ≤ at → at < found → is_line_ending (slice_index text at) ≡ false
  pub stops : found < length text → is_line_ending (slice_index text found) ≡ true

-- the length of a line ending; 0 where there is none
abbrev pub length_of_ending : Option ℕ → ℕ
length_of_ending None = 0
length_of_ending (Some bytes) = bytes

-- the length of the line ending that bytes begin with
abbrev pub ending_length : List ℕ → ℕ
ending_length bytes = length_of_ending (line_ending bytes)

-- a line that begins at byte offset `start`: its content goes up to the first line ending, or the end of the text, and
-- the next line begins after that line ending
pub record IsLineFrom (text : List ℕ) (start : ℕ) (line : Line) : Type 0 where
  pub begins : line.start ≡ start
  pub content : IsLineEnd text start line.stop
  pub ends : line.next ≡ line.stop + ending_length (drop line.stop text)
