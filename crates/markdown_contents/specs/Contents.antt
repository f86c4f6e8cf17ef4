-- The table of contents of headings: a nested Markdown list of links, each to the id of its heading.
use Rattle.std.specs.Prelude.{ℕ, zero, suc, ◌+◌, Bool, false, not, ◌==◌, ◌||◌, ◌&&◌, nat_lt, if◌then◌else◌}
use Rattle.std.specs.Prelude.{List, [], ◌∷◌, ◌++◌, flat_map, Option, Some, None}
use Rattle.std.specs.Prelude.{codes, chars, encode_utf8}
use Rattle.std.specs.List.{list_any}
use Rattle.percent_encoding.specs.Percent.{percent_encode_byte}
use Rattle.markdown_base.specs.Bytes.{carriage_return, colon, line_feed, slash, space}
use Rattle.markdown_outline.specs.Outline.{EntryView}

-- whether a character may be markup in the text of a link
abbrev pub is_markup : ℕ → Bool
is_markup c = list_any (λ mark. c == mark) (codes "\\[]*_`<&")

-- what a character is written as in a link's text: a numeric reference for a line ending, and after a backslash
-- where it may be markup
abbrev pub escaped_char : ℕ → List ℕ
escaped_char c =
    if c == line_feed then codes "&#10;"
    else if c == carriage_return then codes "&#13;"
    else if is_markup c then codes "\\" ++ encode_utf8 c
    else encode_utf8 c

-- what a text is written as in a link's text
abbrev pub escaped : List ℕ → List ℕ
escaped text = flat_map escaped_char (chars text)

-- the number of headings above one of this level, after headings of these levels, of which the latest is first: the
-- nearest of a lower level, and those above that
abbrev pub depth : ℕ → List ℕ → ℕ
depth level [] = 0
depth level (nearest ∷ others) = if nat_lt nearest level then depth nearest others + 1 else depth level others

-- two spaces for each heading above
abbrev pub indent : ℕ → List ℕ
indent zero = []
indent (suc depth) = codes "  " ++ indent depth

-- the last control character of ASCII
abbrev pub delete : ℕ
delete = 127

-- whether a character is written by its number in a destination: it is a space, a control character of ASCII, or DEL
abbrev pub is_encoded : ℕ → Bool
is_encoded c = nat_lt c (space + 1) || c == delete

-- whether a character has a meaning in a destination
abbrev pub is_destination_markup : ℕ → Bool
is_destination_markup c = list_any (λ mark. c == mark) (codes "\\()<>&")

-- what a character of an id is written as in a destination
abbrev pub id_char : ℕ → List ℕ
id_char c =
    if is_encoded c then percent_encode_byte c
    else if is_destination_markup c then codes "\\" ++ encode_utf8 c
    else encode_utf8 c

-- an id in a destination
abbrev pub id_in_destination : List ℕ → List ℕ
id_in_destination id = flat_map id_char (chars id)

-- whether a character of a file's name has a meaning in an address
abbrev pub is_address_mark : ℕ → Bool
is_address_mark c = list_any (λ mark. c == mark) (codes "%#?")

-- what a character of a file's name is written as in a destination
abbrev pub file_char : ℕ → List ℕ
file_char c = if is_address_mark c then percent_encode_byte c else id_char c

-- whether a file's name would be read as an address with a scheme: there is a colon before its first slash
abbrev pub may_be_scheme : List ℕ → Bool
may_be_scheme [] = false
may_be_scheme (b ∷ name) = (b == colon) || (not (b == slash) && may_be_scheme name)

-- a file's name in a destination
abbrev pub file_in_destination : List ℕ → List ℕ
file_in_destination name = (if may_be_scheme name then codes "./" else []) ++ flat_map file_char (chars name)

-- the text of a heading without an id, and otherwise a link to the id in a file, or in this one if its name is empty
abbrev pub heading_link : (file text : List ℕ) → Option (List ℕ) → List ℕ
heading_link file text None = escaped text
heading_link file text (Some id) =
    codes "[" ++ escaped text ++ codes "](" ++ file_in_destination file ++ codes "#" ++ id_in_destination id
    ++ codes ")"

-- the line of a heading below this number of others
abbrev pub line : (file : List ℕ) (depth : ℕ) → EntryView → List ℕ
line file depth e = indent depth ++ codes "- " ++ heading_link file e.text e.id ++ codes "\n"

-- the line of a heading after headings of these levels, of which the latest is first
abbrev pub line_after : (file : List ℕ) (levels : List ℕ) → EntryView → List ℕ
line_after file levels e = line file (depth e.level levels) e

-- the lines of headings after headings of these levels
abbrev pub lines_after : (file : List ℕ) (levels : List ℕ) → List EntryView → List ℕ
lines_after file levels [] = []
lines_after file levels (e ∷ entries) = line_after file levels e ++ lines_after file (e.level ∷ levels) entries

-- the table of contents of the headings of a file
abbrev pub contents_in_file : (file : List ℕ) → List EntryView → List ℕ
contents_in_file file entries = lines_after file [] entries

-- the same with links within one text
abbrev pub contents_of : List EntryView → List ℕ
contents_of entries = contents_in_file [] entries
