-- What a line is, whatever ends it (CommonMark 2.1).
use Rattle.std.specs.Prelude.{◌≡◌, ℕ, ◌+◌, Bool, true, not, List, ◌++◌, Some, None, length}
use Rattle.std.specs.List.{list_all}
use Rattle.markdown_scan.specs.LineEnd.{line_ending}
use Rattle.markdown_lines.specs.Lines.{is_line_ending}
use Rattle.markdown_lines.specs.SourceLines.{SourceLine, first_line}

-- neither a line feed nor a carriage return
abbrev pub is_in_line : ℕ → Bool
is_in_line b = not (is_line_ending b)

-- a line with this content, after which the next line begins at a byte offset
abbrev pub content_line : ℕ → List ℕ → ℕ → SourceLine
content_line at content next = record {
  left = record { scanned = at; owed = 0; column = 0; bytes = content };
  next = next;
  outermost = true;
  indent = None;
}

-- 2.1. Bytes that are no line endings, and a line ending, are a line with these bytes, be it a line feed, a carriage
-- return that no line feed follows, or both.
abbrev pub LineIsItsContent : Type 0
LineIsItsContent =
    (at : ℕ) (content ending rest : List ℕ)
    → list_all is_in_line content ≡ true → line_ending (ending ++ rest) ≡ Some (length ending)
    → first_line at (content ++ (ending ++ rest)) ≡ content_line at content (at + length content + length ending)
