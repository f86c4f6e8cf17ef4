-- Thematic breaks (CommonMark 4.1) and the underlines of setext headings (4.3), by the bytes of a line.
use Rattle.std.specs.Prelude.{◌≡◌, ℕ, Bool, false, ◌==◌, ◌&&◌, ◌||◌, nat_le, nat_lt, List, [], ◌∷◌, Option, Some, None}
use Rattle.std.specs.Prelude.{length, drop, if◌then◌else◌}
use Rattle.std.specs.List.{count_by, list_all, prefix_len}
use Rattle.markdown_base.specs.Bytes.{asterisk, equals_sign, hyphen, underscore}
use Rattle.markdown_base.specs.declared.tag.HeadingLevel.{HeadingLevel}
use Rattle.markdown_base.specs.declared.tag.HeadingLevel.TheVariants as level
use Rattle.markdown_lines.specs.Lines.{is_space_or_tab}

-- a character of thematic breaks
abbrev pub is_break_mark : ℕ → Bool
is_break_mark byte = (byte == asterisk) || (byte == hyphen) || (byte == underscore)

-- this character, or a space or a tab
abbrev pub is_of_break : ℕ → ℕ → Bool
is_of_break mark byte = (byte == mark) || is_space_or_tab byte

-- a line's content is a thematic break: three or more of one character, with spaces and tabs between and after them
abbrev pub is_thematic_break : List ℕ → Bool
is_thematic_break [] = false
is_thematic_break (mark ∷ bytes) =
    is_break_mark mark && (prefix_len (is_of_break mark) (mark ∷ bytes) == length (mark ∷ bytes))
    && nat_le 3 (count_by (λ b. b == mark) (mark ∷ bytes))

-- the number of bytes at the beginning that could belong to a thematic break, where another byte follows; otherwise 0
abbrev pub broken_off : List ℕ → ℕ
broken_off [] = 0
broken_off (mark ∷ bytes) =
    if is_break_mark mark && nat_lt (prefix_len (is_of_break mark) (mark ∷ bytes)) (length (mark ∷ bytes))
    then prefix_len (is_of_break mark) (mark ∷ bytes) else 0

-- a line's content is not a thematic break, and this number of its bytes could belong to one
pub record IsBrokenOff (content : List ℕ) (count : ℕ) : Type 0 where
  pub none : is_thematic_break content ≡ false
  pub value : count ≡ broken_off content

-- the level of a setext heading, from the character of its underline
abbrev pub underline_level : ℕ → Option HeadingLevel
underline_level byte = if byte == equals_sign then Some level.H1 else if byte == hyphen then Some level.H2 else None

-- the level of the setext heading whose underline a line's content is: a run of `=` or `-`, and white space after it
abbrev pub setext_level : List ℕ → Option HeadingLevel
setext_level [] = None
setext_level (first ∷ bytes) =
    if list_all is_space_or_tab (drop (prefix_len (λ b. b == first) (first ∷ bytes)) (first ∷ bytes))
    then underline_level first else None
