-- Which delimiters can open, and which can close, by the characters around them (CommonMark 6.2).
use Rattle.std.specs.Prelude.{ℕ, Bool, true, false, not, ◌==◌, ◌&&◌, ◌||◌, List, Option, Some, None, reverse}
use Rattle.std.specs.Prelude.{length, slice_get, slice_range}
use Rattle.std.specs.Char.{is_whitespace, is_ascii_punctuation}
use Rattle.std.specs.Str.{chars}
use Rattle.markdown_base.specs.Bytes.{apostrophe, double_quote, underscore}
use Rattle.markdown_items.specs.declared.flanking.Flags.{Flags}

-- the character before an offset in a line's content that begins at `start`; none at its first byte
abbrev pub character_before : List ℕ → ℕ → ℕ → Option ℕ
character_before text start at = slice_get (reverse (chars (slice_range text start at))) 0

-- the character at an offset in the text; none at its end. After a line's content there is its line ending, or what the
-- content leaves out, such as the backslash of a hard line break.
abbrev pub character_after : List ℕ → ℕ → Option ℕ
character_after text at = slice_get (chars (slice_range text at (length text))) 0

-- Unicode white space (CommonMark 2.1); the absence of a character counts as a line ending
abbrev pub is_white : Option ℕ → Bool
is_white None = true
is_white (Some character) = is_whitespace character

-- punctuation, limited to ASCII
abbrev pub is_punctuation : Option ℕ → Bool
is_punctuation None = false
is_punctuation (Some character) = is_ascii_punctuation character

-- a run is not followed by white space, and either not followed by punctuation, or preceded by white space
-- or punctuation
abbrev pub is_left_flanking : Option ℕ → Option ℕ → Bool
is_left_flanking before after =
    not (is_white after) && (not (is_punctuation after) || (is_white before || is_punctuation before))

-- a run is not preceded by white space, and either not preceded by punctuation, or followed by white space
-- or punctuation
abbrev pub is_right_flanking : Option ℕ → Option ℕ → Bool
is_right_flanking before after =
    not (is_white before) && (not (is_punctuation before) || (is_white after || is_punctuation after))

-- `_`, and a quotation mark, for which the rules of `_` apply: no such delimiter opens or closes within a word
abbrev pub stays_outside_words : ℕ → Bool
stays_outside_words byte = (byte == underscore) || ((byte == apostrophe) || (byte == double_quote))

-- a delimiter can open: it is left-flanking, and where it stays outside words, it is not also right-flanking, or is
-- preceded by punctuation
abbrev pub run_can_open : ℕ → Option ℕ → Option ℕ → Bool
run_can_open byte before after =
    is_left_flanking before after
    && (not (stays_outside_words byte) || (not (is_right_flanking before after) || is_punctuation before))

-- a delimiter can close: it is right-flanking, and where it stays outside words, it is not also left-flanking, or is
-- followed by punctuation
abbrev pub run_can_close : ℕ → Option ℕ → Option ℕ → Bool
run_can_close byte before after =
    is_right_flanking before after
    && (not (stays_outside_words byte) || (not (is_left_flanking before after) || is_punctuation after))

-- both flags of a delimiter
abbrev pub flags_of : ℕ → Option ℕ → Option ℕ → Flags
flags_of byte before after = record { opens = run_can_open byte before after; closes = run_can_close byte before after }
