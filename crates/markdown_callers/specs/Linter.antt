-- The lines and columns of a text, and the positions of its raw HTML.
use Rattle.std.specs.Prelude.{ℕ, zero, suc, ◌+◌, min, Bool, true, false, not, ◌==◌, ◌&&◌, ◌||◌}
use Rattle.std.specs.Prelude.{List, [], ◌∷◌, count_by, filter, length, map, slice_index}
use Rattle.std.specs.List.{prefix_len}
use Rattle.markdown.specs.ByteWords.{carriage_return, line_feed}
use Rattle.markdown.specs.EventWords.{EventView, html, inline_html}
use Rattle.markdown.specs.ReadingWords.{Ranged}
use Rattle.markdown_callers.specs.TextReading.{placed_events}
use Rattle.markdown_callers.specs.declared.linter.LineColumn.{LineColumn}

-- whether a line ends with the byte at an offset: a line feed, or a carriage return with no line feed
-- after it
abbrev pub ends_line_at : List ℕ → ℕ → Bool
ends_line_at text at =
    (slice_index text at == line_feed)
    || ((slice_index text at == carriage_return) && not (slice_index text (at + 1) == line_feed))

-- the offsets before this one, the nearest first
abbrev pub offsets_before : ℕ → List ℕ
offsets_before zero = []
offsets_before (suc at) = at ∷ offsets_before at

-- the number of lines that end before an offset
abbrev pub lines_before : List ℕ → ℕ → ℕ
lines_before text at = count_by (ends_line_at text) (offsets_before at)

-- the number of bytes between the start of its line and an offset
abbrev pub bytes_before_in_line : List ℕ → ℕ → ℕ
bytes_before_in_line text at = prefix_len (λ k. not (ends_line_at text k)) (offsets_before at)

-- the line and column of an offset within the text, both counted from 1, the column in bytes
abbrev pub place_within : List ℕ → ℕ → LineColumn
place_within text at = record { line = lines_before text at + 1; column = bytes_before_in_line text at + 1 }

-- the same for any offset; one past the end of the text has the position of its end
abbrev pub position_at : List ℕ → ℕ → LineColumn
position_at text offset = place_within text (min offset (length text))

-- whether an event is raw HTML: a tag or comment in a paragraph, or a line of an HTML block
abbrev pub is_html : EventView → Bool
is_html (html bytes) = true
is_html (inline_html bytes) = true
is_html other = false

-- the positions where the raw HTML among these events begins, in order
abbrev pub html_positions : List ℕ → List Ranged → List LineColumn
html_positions text events = map (λ e. position_at text e.1.start) (filter (λ e. is_html e.0) events)

-- the positions of the raw HTML in a text
abbrev pub html_positions_in : (text : List ℕ) → List LineColumn
html_positions_in text = html_positions text (placed_events text)
