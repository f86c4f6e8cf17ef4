-- The title in the metadata before a text, which are lines of YAML or of TOML: the value of `title` in the first line
-- that gives one. All is said of the characters of the metadata; white space in a line is spaces and tabs.
use Rattle.std.specs.Prelude.{ℕ, List, [], ◌∷◌, Bool, true, false, not, ◌&&◌, ◌||◌, ◌==◌, if◌then◌else◌, length}
use Rattle.std.specs.Prelude.{Option, Some, None, option_map, option_and_then, reverse, codes, chars, encode_utf8_all}
use Rattle.std.specs.Option.{option_or}
use Rattle.std.specs.List.{list_any, slice_split}
use Rattle.std.specs.Str.{bytes_eq, trim}
use Rattle.markdown_base.specs.Bytes.{apostrophe, backslash, carriage_return, colon, double_quote, hyphen, line_feed}
use Rattle.markdown_base.specs.Bytes.{number_sign, open_bracket, question_mark, space, tab}
use Rattle.markdown_base.specs.declared.tag.MetadataBlockKind.{MetadataBlockKind}
use Rattle.markdown_base.specs.declared.tag.MetadataBlockKind.TheVariants as kind

-- a space or a tab
abbrev pub is_gap : ℕ → Bool
is_gap c = (c == space) || (c == tab)

-- a line feed or a carriage return
abbrev pub is_line_break : ℕ → Bool
is_line_break c = (c == line_feed) || (c == carriage_return)

-- the lines of a text: what stands before, between and after its line feeds and carriage returns, so that an empty line
-- stands in the middle of CR LF
abbrev pub metadata_lines : List ℕ → List (List ℕ)
metadata_lines text = slice_split is_line_break text

-- whether a text begins with this character
abbrev pub starts_with_char : ℕ → List ℕ → Bool
starts_with_char c [] = false
starts_with_char c (d ∷ text) = d == c

-- what follows these characters in a text that begins with them
abbrev pub text_after : (front text : List ℕ) → Option (List ℕ)
text_after [] text = Some text
text_after (c ∷ front) [] = None
text_after (c ∷ front) (d ∷ text) = if d == c then text_after front text else None

-- a text without the white space at its beginning
abbrev pub past_gap : List ℕ → List ℕ
past_gap [] = []
past_gap (c ∷ cs) = if is_gap c then past_gap cs else c ∷ cs

-- a text without the white space at its end
abbrev pub up_to_gap : List ℕ → List ℕ
up_to_gap text = reverse (past_gap (reverse text))

-- a value in quotes and what follows it, with one character more at the beginning of the value
abbrev pub onto_value : ℕ → Option (List ℕ × List ℕ) → Option (List ℕ × List ℕ)
onto_value c quoted = option_map (λ q. (c ∷ q.0, q.1)) quoted

-- whether a backslash and this character stand for the character
abbrev pub can_be_escaped : ℕ → Bool
can_be_escaped c = (c == double_quote) || (c == backslash)

-- what stands before the next `"`, and after it. In it `\"` and `\\` stand for their second character; no other
-- backslash is read
abbrev pub double_quoted : List ℕ → Option (List ℕ × List ℕ)
double_quoted [] = None
double_quoted (c ∷ []) = if c == double_quote then Some ([], []) else None
double_quoted (c ∷ d ∷ cs) =
    if c == double_quote then Some ([], d ∷ cs)
    else if c == backslash then
    (if can_be_escaped d then onto_value d (double_quoted cs) else None)
    else onto_value c (double_quoted (d ∷ cs))

-- what stands before the next `'`, and after it. Where `'` is doubled in a value, `''` in it stands for one
abbrev pub single_quoted : (doubled : Bool) → List ℕ → Option (List ℕ × List ℕ)
single_quoted doubled [] = None
single_quoted doubled (c ∷ []) = if c == apostrophe then Some ([], []) else None
single_quoted doubled (c ∷ d ∷ cs) =
    if c == apostrophe then
    (if doubled && (d == apostrophe) then onto_value d (single_quoted doubled cs) else Some ([], d ∷ cs))
    else onto_value c (single_quoted doubled (d ∷ cs))

-- whether `'` is doubled in values in `'`: in YAML
abbrev pub doubles_apostrophes : MetadataBlockKind → Bool
doubles_apostrophes kind.YamlStyle = true
doubles_apostrophes kind.PlusesStyle = false

-- nothing, or white space first
abbrev pub is_gap_or_nothing : List ℕ → Bool
is_gap_or_nothing [] = true
is_gap_or_nothing (c ∷ cs) = is_gap c

-- nothing, or a comment
abbrev pub is_comment_or_nothing : List ℕ → Bool
is_comment_or_nothing [] = true
is_comment_or_nothing (c ∷ cs) = c == number_sign

-- whether this may follow a value in quotes: white space alone, or a comment, before which white space stands in YAML
abbrev pub may_follow_quotes : MetadataBlockKind → List ℕ → Bool
may_follow_quotes kind.YamlStyle text = is_gap_or_nothing text && is_comment_or_nothing (past_gap text)
may_follow_quotes kind.PlusesStyle text = is_comment_or_nothing (past_gap text)

-- the value in quotes, where what follows it may
abbrev pub value_in_quotes : MetadataBlockKind → Option (List ℕ × List ℕ) → Option (List ℕ)
value_in_quotes metadata None = None
value_in_quotes metadata (Some quoted) = if may_follow_quotes metadata quoted.1 then Some quoted.0 else None

-- what has a meaning of its own at the beginning of a value of YAML
abbrev pub is_yaml_indicator : ℕ → Bool
is_yaml_indicator c = list_any (λ d. d == c) (codes "|>[]{},&*!%@`#")

-- what has a meaning at the beginning of a value of YAML only where it stands alone
abbrev pub marks_alone : ℕ → Bool
marks_alone c = (c == hyphen) || (c == question_mark)

-- whether a value of YAML that stands in no quotes may begin so: not with what has a meaning there
abbrev pub begins_plain_value : List ℕ → Bool
begins_plain_value [] = false
begins_plain_value (c ∷ cs) =
    if marks_alone c then not (is_gap_or_nothing cs) else not (is_yaml_indicator c)

-- whether a comment begins with this character and those after it: white space and `#`
abbrev pub begins_comment : ℕ → List ℕ → Bool
begins_comment c cs = is_gap c && starts_with_char number_sign cs

-- what stands before a comment
abbrev pub before_comment : List ℕ → List ℕ
before_comment [] = []
before_comment (c ∷ cs) = if begins_comment c cs then [] else c ∷ before_comment cs

-- nothing, or a space first
abbrev pub is_space_or_nothing : List ℕ → Bool
is_space_or_nothing [] = true
is_space_or_nothing (c ∷ cs) = c == space

-- whether a key of YAML ends with this character: a colon before a space, or at the end
abbrev pub ends_key : ℕ → List ℕ → Bool
ends_key c cs = (c == colon) && is_space_or_nothing cs

-- whether a value of YAML has a key in it
abbrev pub has_key : List ℕ → Bool
has_key [] = false
has_key (c ∷ cs) = if ends_key c cs then true else has_key cs

-- the ways in which YAML writes that there is no value, of its bytes
abbrev pub is_null_word : List ℕ → Bool
is_null_word value =
    bytes_eq value (codes "~") || bytes_eq value (codes "null") || bytes_eq value (codes "Null")
    || bytes_eq value (codes "NULL")

-- whether these characters are no value: they have a key in them, or write that there is none
abbrev pub is_no_value : List ℕ → Bool
is_no_value value = has_key value || is_null_word (encode_utf8_all value)

-- a value, unless it is none
abbrev pub value_if_any : List ℕ → Option (List ℕ)
value_if_any value = if is_no_value value then None else Some value

-- the value of YAML that stands in no quotes: what stands before a comment, where it may begin so and end so
abbrev pub plain_value : List ℕ → Option (List ℕ)
plain_value text =
    if begins_plain_value text then value_if_any (up_to_gap (before_comment text)) else None

-- the value that stands in no quotes: in TOML there is none
abbrev pub value_without_quotes : MetadataBlockKind → List ℕ → Option (List ℕ)
value_without_quotes kind.YamlStyle text = plain_value text
value_without_quotes kind.PlusesStyle text = None

-- the value that a text gives: in quotes, or in none
abbrev pub value_of_text : MetadataBlockKind → List ℕ → Option (List ℕ)
value_of_text metadata [] = None
value_of_text metadata (c ∷ cs) =
    if c == double_quote then value_in_quotes metadata (double_quoted cs)
    else if c == apostrophe then value_in_quotes metadata (single_quoted (doubles_apostrophes metadata) cs)
    else value_without_quotes metadata (c ∷ cs)

-- what follows the colon of a key of YAML: nothing, or white space and a value
abbrev pub text_past_gap : List ℕ → Option (List ℕ)
text_past_gap text = if is_gap_or_nothing text then Some (past_gap text) else None

-- what follows the name of a key of TOML: `=` and a value, with or without white space before them
abbrev pub text_past_equals : List ℕ → Option (List ℕ)
text_past_equals text = option_map past_gap (text_after (codes "=") (past_gap text))

-- the text of the value of `title`, in a line that gives one
abbrev pub title_text : MetadataBlockKind → List ℕ → Option (List ℕ)
title_text kind.YamlStyle line = option_and_then text_past_gap (text_after (codes "title:") line)
title_text kind.PlusesStyle line = option_and_then text_past_equals (text_after (codes "title") line)

-- whether a line begins a table of TOML, in which keys are not those of the whole
abbrev pub begins_table : MetadataBlockKind → List ℕ → Bool
begins_table kind.YamlStyle line = false
begins_table kind.PlusesStyle line = starts_with_char open_bracket line

-- the text of the value of `title` in the first line that gives one, up to the first table
abbrev pub first_title_text : MetadataBlockKind → List (List ℕ) → Option (List ℕ)
first_title_text metadata [] = None
first_title_text metadata (line ∷ lines) =
    if begins_table metadata line then None
    else option_or (title_text metadata line) (first_title_text metadata lines)

-- a text without the white space at its ends, where anything is left of it
abbrev pub shown_title : List ℕ → Option (List ℕ)
shown_title text = if length (trim text) == 0 then None else Some (trim text)

-- the title in metadata: what is shown of that value
abbrev pub metadata_title : MetadataBlockKind → List ℕ → Option (List ℕ)
metadata_title metadata text =
    option_and_then (λ value. shown_title (encode_utf8_all value))
    (option_and_then (value_of_text metadata) (first_title_text metadata (metadata_lines (chars text))))
