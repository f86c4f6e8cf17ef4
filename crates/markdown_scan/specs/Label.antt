-- Link labels (CommonMark 6.3), from the byte after the opening bracket on. `skipped` returns the length of the line
-- prefix that the bytes after a line ending begin with, if a line ending is allowed there.
use Rattle.std.specs.Prelude.{ℕ, zero, suc, ◌+◌, List, [], ◌∷◌, ◌++◌, Bool, true, false, not, ◌&&◌, ◌||◌, Option, Some}
use Rattle.std.specs.Prelude.{None, if◌then◌else◌, unwrap_or, is_none, nat_le, nat_lt, count_by, option_and_then}
use Rattle.std.specs.List.{list_any}
use Rattle.std.specs.Option.{option_map}
use Rattle.markdown_base.specs.Bytes.{backslash, close_bracket, open_bracket, space}
use Rattle.markdown_scan.specs.AsciiKinds.{is_white_space}
use Rattle.markdown_scan.specs.Backslash.{escapes_pipe, is_bare}
use Rattle.markdown_scan.specs.LinePrefix.{prefix_after}

-- a byte of the label, a byte of a line's prefix, or a line ending that is not allowed
pub data LabelByte : Type 0 where
  kept : ℕ → LabelByte
  dropped : LabelByte
  refused : LabelByte

-- the bytes as label bytes, the first n of them in a prefix
abbrev pub label_bytes : (List ℕ → Option ℕ) → ℕ → List ℕ → List LabelByte
label_bytes skipped n [] = []
label_bytes skipped (suc n) (b ∷ bytes) = dropped ∷ label_bytes skipped n bytes
label_bytes skipped zero (b ∷ bytes) =
    kept b ∷ (if is_none (prefix_after skipped b bytes) then refused ∷ []
    else label_bytes skipped (unwrap_or (prefix_after skipped b bytes) 0) bytes)

-- what was found, with n more bytes and a text before it
abbrev pub put_before : ℕ → List ℕ → Option (ℕ × List ℕ) → Option (ℕ × List ℕ)
put_before n text found = option_map (λ f. (n + f.0, text ++ f.1)) found

-- the byte offset of the first unescaped `]`, and the label's bytes before it; none if an unescaped `[` precedes it
abbrev pub body : Bool → List LabelByte → Option (ℕ × List ℕ)
body escaped [] = None
body escaped (refused ∷ rest) = None
body escaped (dropped ∷ rest) = put_before 1 [] (body escaped rest)
body escaped (kept b ∷ rest) =
    if is_bare escaped b close_bracket then Some (0, [])
    else if is_bare escaped b open_bracket then None
    else put_before 1 (b ∷ []) (body (is_bare escaped b backslash) rest)

-- in a table, without each backslash directly before a pipe, whether or not that backslash is itself escaped
abbrev pub shown : Bool → List ℕ → List ℕ
shown in_table [] = []
shown in_table (b ∷ bytes) =
    if escapes_pipe in_table b bytes then shown in_table bytes else b ∷ shown in_table bytes

-- what was found, with its text as it is shown
abbrev pub with_shown : Bool → Option (ℕ × List ℕ) → Option (ℕ × List ℕ)
with_shown in_table found = option_map (λ f. (f.0, shown in_table f.1)) found

-- a bracket that is not escaped
abbrev pub is_bracket : Bool → ℕ → Bool
is_bracket escaped b = is_bare escaped b close_bracket || is_bare escaped b open_bracket

-- one space before a byte that is not white space, if white space separates it from an earlier one
abbrev pub gap : Bool → Bool → List ℕ
gap begun waiting = if begun && waiting then space ∷ [] else []

-- each inner run of white space as one space, and none at the ends; `begun` after the first byte of the result,
-- `waiting` after white space
abbrev pub collapse_whitespace : Bool → Bool → List ℕ → List ℕ
collapse_whitespace begun waiting [] = []
collapse_whitespace begun waiting (b ∷ bytes) =
    if is_white_space b then collapse_whitespace begun true bytes else gap begun waiting
    ++ b ∷ collapse_whitespace true false bytes

-- the first byte of a character in UTF-8
abbrev pub begins_character : ℕ → Bool
begins_character b = nat_lt b 128 || nat_le 192 b

-- not white space
abbrev pub is_not_white_space : ℕ → Bool
is_not_white_space b = not (is_white_space b)

-- at most 999 characters, at least one of them not white space
abbrev pub fits_label : List ℕ → Bool
fits_label text = nat_le (count_by begins_character text) 999 && list_any is_not_white_space text

-- the byte offset of the closing bracket, and the text before it
abbrev pub label_body : (List ℕ → Option ℕ) → Bool → List ℕ → Option (ℕ × List ℕ)
label_body skipped in_table bytes =
    option_and_then (λ f. if fits_label f.1 then Some f else None)
    (with_shown in_table (body false (label_bytes skipped 0 bytes)))

-- the label that the bytes begin with: its length, including the closing bracket, and its text
abbrev pub link_label : (List ℕ → Option ℕ) → Bool → List ℕ → Option (ℕ × List ℕ)
link_label skipped in_table bytes =
    option_map (λ f. (f.0 + 1, collapse_whitespace false false f.1)) (label_body skipped in_table bytes)
