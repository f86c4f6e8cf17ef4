-- Open and closing tags (CommonMark 6.6), as a grammar over the bytes of a text. Each part returns how many of the
-- bytes it takes, as many as it can, or `None` if the text does not begin with it.
use Rattle.std.specs.Prelude.{ℕ, ◌+◌, ◌-◌, suc, zero, Bool, not, ◌||◌, ◌==◌, List, [], ◌∷◌, Option, Some, None}
use Rattle.std.specs.Prelude.{if◌then◌else◌, option_and_then, unwrap_or, drop, codes}
use Rattle.std.specs.List.{list_any, prefix_len}
use Rattle.std.specs.Option.{option_map, option_map_or, option_or}
use Rattle.std.specs.Char.{is_ascii_alphabetic, is_ascii_alphanumeric}
use Rattle.markdown_base.specs.Bytes.{apostrophe, backtick, carriage_return, double_quote, equals_sign, greater_than}
use Rattle.markdown_base.specs.Bytes.{less_than, line_feed, slash, space, tab}

-- a part at the beginning of a text: the number of bytes that it takes
abbrev pub TagPart : Type 0
TagPart = List ℕ → Option ℕ

-- one part and then another
unfoldable pub both : TagPart → TagPart → TagPart
both first second bytes =
    option_and_then (λ n. option_map (λ m. n + m) (second (drop n bytes))) (first bytes)

-- one part, or another if the text does not begin with it
unfoldable pub either : TagPart → TagPart → TagPart
either first second bytes = option_or (first bytes) (second bytes)

-- an optional part
unfoldable pub optional : TagPart → TagPart
optional part bytes = Some (unwrap_or (part bytes) 0)

-- a number that is not zero
abbrev pub nonzero : ℕ → Option ℕ
nonzero zero = None
nonzero (suc n) = Some (suc n)

-- a part that takes at least one byte
unfoldable pub nonempty : TagPart → TagPart
nonempty part bytes = option_and_then nonzero (part bytes)

-- the number of bytes of a part repeated as often as possible, the first `passed` of them taken already
unfoldable pub often_past : TagPart → ℕ → List ℕ → ℕ
often_past part passed [] = 0
often_past part (suc passed) (b ∷ bytes) = 1 + often_past part passed bytes
often_past part zero (b ∷ bytes) =
    option_map_or (λ n. 1 + often_past part (n - 1) bytes) (nonempty part (b ∷ bytes)) 0

-- a part repeated as often as possible, maybe not at all
unfoldable pub often : TagPart → TagPart
often part bytes = Some (often_past part 0 bytes)

-- one byte of a kind
unfoldable pub one : (ℕ → Bool) → TagPart
one kind [] = None
one kind (b ∷ bytes) = if kind b then Some 1 else None

-- all bytes of a kind that come next, maybe none
unfoldable pub all : (ℕ → Bool) → TagPart
all kind bytes = Some (prefix_len kind bytes)

-- the byte is one of these
abbrev pub is_of : List ℕ → ℕ → Bool
is_of marks b = list_any (λ mark. mark == b) marks

-- a space or a tab
abbrev pub is_tag_blank : ℕ → Bool
is_tag_blank = is_of (space ∷ tab ∷ [])

-- a byte of a value without quotes: any but spaces, tabs, line endings and ``"'=<>` ``
abbrev pub in_unquoted : ℕ → Bool
in_unquoted b = not (is_of
    (space ∷ tab ∷ line_feed ∷ carriage_return ∷ double_quote ∷ apostrophe ∷ equals_sign ∷ less_than ∷ greater_than
    ∷ backtick ∷ []) b)

-- the given byte
abbrev pub byte : ℕ → TagPart
byte mark = one (λ b. b == mark)

-- a line feed, or a carriage return and the line feed after it if there is one
abbrev pub line_end : TagPart
line_end = either (byte line_feed) (both (byte carriage_return) (optional (byte line_feed)))

-- spaces and tabs, and at most one line ending
abbrev pub white_space : TagPart
white_space = both (all is_tag_blank) (both (optional line_end) (all is_tag_blank))

-- an ASCII letter, and then ASCII letters, digits and hyphens
abbrev pub tag_name : TagPart
tag_name = both (one is_ascii_alphabetic) (all (λ b. is_ascii_alphanumeric b || is_of (codes "-") b))

-- an ASCII letter, `_` or `:`, and then ASCII letters, digits, `_`, `.`, `:` and `-`
abbrev pub attribute_name : TagPart
attribute_name =
    both (one (λ b. is_ascii_alphabetic b || is_of (codes "_:") b))
    (all (λ b. is_ascii_alphanumeric b || is_of (codes "_.:-") b))

-- a value without quotes, of at least one byte
abbrev pub unquoted_value : TagPart
unquoted_value = both (one in_unquoted) (all in_unquoted)

-- a value between two of the marks, which does not contain the mark
abbrev pub quoted_value : ℕ → TagPart
quoted_value mark = both (byte mark) (both (all (λ b. not (b == mark))) (byte mark))

-- a value: without quotes, in single quotes or in double quotes
abbrev pub attribute_value : TagPart
attribute_value = either unquoted_value (either (quoted_value apostrophe) (quoted_value double_quote))

-- `=` and a value, with optional white space before each
abbrev pub value_specification : TagPart
value_specification = both white_space (both (byte equals_sign) (both white_space attribute_value))

-- white space, a name, and an optional value
abbrev pub attribute : TagPart
attribute = both (nonempty white_space) (both attribute_name (optional value_specification))

-- optional white space, an optional `/`, and `>`
abbrev pub open_tag_end : TagPart
open_tag_end = both white_space (both (optional (byte slash)) (byte greater_than))

-- `<`, a name, attributes, and the end
abbrev pub open_tag : TagPart
open_tag = both (byte less_than) (both tag_name (both (often attribute) open_tag_end))

-- `</`, a name, optional white space, and `>`
abbrev pub closing_tag : TagPart
closing_tag = both (byte less_than) (both (byte slash) (both tag_name (both white_space (byte greater_than))))

-- a tag
abbrev pub html_tag : TagPart
html_tag = either open_tag closing_tag
