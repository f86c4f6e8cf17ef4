-- The lines of a text (CommonMark 2.1), and what is left of a line inside some containers.
use Rattle.std.specs.Prelude.{ℕ, zero, suc, ◌+◌, ◌-◌, Bool, true, false, not, ◌==◌, List, [], ◌∷◌, Option, None}
use Rattle.std.specs.Prelude.{length, take, drop, if◌then◌else◌}
use Rattle.std.specs.List.{list_all, prefix_len}
use Rattle.markdown_scan.specs.LineStart.{LineLeft, leading_space}
use Rattle.markdown_lines.specs.Lines.{ending_length, is_line_ending, is_space_or_tab}

-- what is left of a line, the byte offset at which the next line begins, and whether the line is directly under the
-- root: in no container but a list
pub record SourceLine : Type 0 where
  pub left : LineLeft
  pub next : ℕ
  pub outermost : Bool
  -- of a further line of a paragraph that it reaches, where tables are read: the columns of space before it, at most 4
  pub indent : Option ℕ

-- the byte offset at which a line's content ends
abbrev pub stop_of : SourceLine → ℕ
stop_of l = l.left.scanned + length l.left.bytes

-- the line that begins at a byte offset, with these bytes from there on
abbrev pub first_line : ℕ → List ℕ → SourceLine
first_line at bytes =
    let content = prefix_len (λ b. not (is_line_ending b)) bytes in
    record {
      left = record { scanned = at; owed = 0; column = 0; bytes = take content bytes };
      next = at + content + ending_length (drop content bytes);
      outermost = true;
      indent = None;
    }

-- at most `n` lines from a byte offset on
unfoldable pub lines_from : ℕ → ℕ → List ℕ → List SourceLine
lines_from zero at bytes = []
lines_from (suc n) at [] = []
lines_from (suc n) at (b ∷ bytes) =
    let line = first_line at (b ∷ bytes) in line ∷ lines_from n line.next (drop (line.next - at) (b ∷ bytes))

-- the lines of a text
abbrev pub lines_of_text : List ℕ → List SourceLine
lines_of_text text = lines_from (length text) 0 text

-- what is left of a line is blank: spaces and tabs
abbrev pub is_blank_rest : SourceLine → Bool
is_blank_rest l = list_all is_space_or_tab l.left.bytes

-- what is left of a line after at most this many columns of space
abbrev pub cut : ℕ → SourceLine → SourceLine
cut columns l = record l { left = (leading_space columns l.left).after }

-- the rest of a line inside a container
abbrev pub rest_inside : LineLeft → SourceLine → SourceLine
rest_inside rest l = record l { left = rest; outermost = false }

-- what is left of a line after all white space
abbrev pub past_white : LineLeft → LineLeft
past_white left =
    let white = prefix_len is_space_or_tab left.bytes in
    record { scanned = left.scanned + white; owed = 0; column = 0; bytes = drop white left.bytes }

-- a line of a paragraph, from its first byte that is not white space on, wherever the paragraph is
abbrev pub text_line : SourceLine → SourceLine
text_line l = rest_inside (past_white l.left) l

-- the end of a line, of which nothing is left, wherever the paragraph is
abbrev pub end_of_line : SourceLine → SourceLine
end_of_line l = rest_inside (record { scanned = stop_of l; owed = 0; column = 0; bytes = [] }) l

-- lines without a first one of which nothing is left
abbrev pub without_empty : List SourceLine → List SourceLine
without_empty [] = []
without_empty (l ∷ lines) = if length l.left.bytes == 0 then lines else l ∷ lines
