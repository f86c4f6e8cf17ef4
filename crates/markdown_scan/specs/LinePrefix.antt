-- The prefix of a line on which a text continues. `skipped` returns the length of the prefix that the bytes after a
-- line ending begin with, if the text continues there.
use Rattle.std.specs.Prelude.{ℕ, Bool, not, ◌&&◌, ◌||◌, ◌==◌, List, Option, Some, if◌then◌else◌}
use Rattle.markdown_base.specs.Bytes.{carriage_return, line_feed}
use Rattle.markdown_scan.specs.LineEnd.{begins_line_feed}

-- the byte, which these bytes follow, is the last one of a line ending
abbrev pub ends_line : ℕ → List ℕ → Bool
ends_line b bytes = (b == line_feed) || ((b == carriage_return) && not (begins_line_feed bytes))

-- the length of the line prefix after this byte, if the text continues after it
abbrev pub prefix_after : (List ℕ → Option ℕ) → ℕ → List ℕ → Option ℕ
prefix_after skipped b bytes = if ends_line b bytes then skipped bytes else Some 0
