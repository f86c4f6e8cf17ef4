-- The separators between the parts of an inline link (CommonMark 6.3): white space that contains at most one line
-- ending. `skipped` returns the length of the line prefix that the bytes after a line ending begin with, if the text
-- continues there.
use Rattle.std.specs.Prelude.{ℕ, ◌+◌, Bool, ◌||◌, ◌==◌, List, Option, Some, None, drop, length, take_while}
use Rattle.std.specs.Option.{option_map_or}
use Rattle.markdown_base.specs.Bytes.{form_feed, line_tabulation, space, tab}
use Rattle.markdown_scan.specs.LineEnd.{line_ending}

-- the byte is a space, tab, line tabulation or form feed
abbrev pub is_blank : ℕ → Bool
is_blank b = (b == space) || (b == tab) || (b == line_tabulation) || (b == form_feed)

-- the number of such bytes that the bytes begin with
abbrev pub blanks : List ℕ → ℕ
blanks bytes = length (take_while is_blank bytes)

-- the length of a line ending of n bytes and the line prefix after it, if the text continues there, and otherwise 0
abbrev pub with_prefix : (List ℕ → Option ℕ) → List ℕ → Option ℕ → ℕ
with_prefix skipped bytes None = 0
with_prefix skipped bytes (Some n) = option_map_or (λ m. n + m) (skipped (drop n bytes)) 0

-- the same for the line ending that the bytes begin with, if any
abbrev pub line_break : (List ℕ → Option ℕ) → List ℕ → ℕ
line_break skipped bytes = with_prefix skipped bytes (line_ending bytes)

-- the length in bytes of the separator: blanks, at most one line ending with the line prefix after it, and blanks
abbrev pub separator : (List ℕ → Option ℕ) → List ℕ → ℕ
separator skipped bytes =
    let first = blanks bytes in
    let line = line_break skipped (drop first bytes) in
    first + line + blanks (drop (first + line) bytes)
