-- How the code finds a named entity: by its name's first letter, and then by halves of the rows that begin with it.
use Rattle.std.specs.Prelude.{◌≡◌, ℕ, suc, ◌+◌, ◌-◌, ◌≤◌, Bool, true, false, not, ◌&&◌, ◌==◌, nat_le, List, [], ◌∷◌}
use Rattle.std.specs.Prelude.{◌++◌, length, slice_index, encode_utf8_all, bytes_eq}
use Rattle.std.specs.Prelude.{Option, Some, None, option_map, if◌then◌else◌}
use Rattle.std.specs.Char.{is_ascii_alphanumeric}
use Rattle.std.specs.List.{list_all}
use Rattle.std.specs.Option.{option_map_or}
use Rattle.std.specs.Cmp.Lexicographic.{slice_cmp}
use Rattle.std.specs.Ordering.{is_lt, nat_cmp}
use Rattle.markdown_base.specs.Bytes.{ampersand, semicolon, space}
use Rattle.markdown_entities.specs.EntityRow.{EntityRow}

-- letters and digits
abbrev pub is_name : List ℕ → Bool
is_name name = list_all is_ascii_alphanumeric name

-- the bytes begin with an ampersand, the name and a semicolon
pub record BeginsWithName (bytes name : List ℕ) : Type 0 where
  pub tail : List ℕ
  pub whole : bytes ≡ ampersand ∷ (name ++ (semicolon ∷ tail))
  pub letters : is_name name ≡ true

-- the bytes begin with no name that is short enough
abbrev pub BeginsWithNoName : List ℕ → Type 0
BeginsWithNoName bytes = (name : List ℕ) → length name ≤ 31 → BeginsWithName bytes name → ⊥

-- a row as the code has it: the name, a semicolon and the characters
abbrev pub row_text : EntityRow → List ℕ
row_text row = row.0 ++ (semicolon ∷ encode_utf8_all row.1)

-- rows, each with a space after it
unfoldable pub rows_text : List EntityRow → List ℕ
rows_text [] = []
rows_text (row ∷ rows) = row_text row ++ (space ∷ rows_text rows)

-- the first row with the name
unfoldable pub named_in : List EntityRow → List ℕ → Option EntityRow
named_in [] name = None
named_in (row ∷ rows) name = if bytes_eq row.0 name then Some row else named_in rows name

-- the characters of a row, in UTF-8
abbrev pub characters_of : Option EntityRow → Option (List ℕ)
characters_of found = option_map (λ row. encode_utf8_all row.1) found

-- a name of letters and digits, not too long, and no space
abbrev pub is_row : EntityRow → Bool
is_row row = is_name row.0 && (nat_le (length row.0) 31 && list_all (λ b. not (b == space)) (row_text row))

abbrev pub AreRows : List EntityRow → Type 0
AreRows rows = list_all is_row rows ≡ true

-- one name is before another in the order of bytes
abbrev pub is_before : List ℕ → List ℕ → Bool
is_before name other = is_lt (slice_cmp nat_cmp name other)

-- each name is before the next, the first of them after the given one
unfoldable pub rise_after : List ℕ → List EntityRow → Bool
rise_after name [] = true
rise_after name (row ∷ rows) = is_before name row.0 && rise_after row.0 rows

-- the names rise in the order of bytes
abbrev pub are_sorted : List EntityRow → Bool
are_sorted [] = true
are_sorted (row ∷ rows) = rise_after row.0 rows

abbrev pub AreSorted : List EntityRow → Type 0
AreSorted rows = are_sorted rows ≡ true

-- one of the rows has the name and the characters, between the texts of the rows before and after it
pub record IsCut (rows : List EntityRow) (before name characters after : List ℕ) : Type 0 where
  pub earlier : List EntityRow
  pub row : EntityRow
  pub later : List EntityRow
  pub whole : rows ≡ earlier ++ (row ∷ later)
  pub before_is : before ≡ rows_text earlier
  pub name_is : name ≡ row.0
  pub characters_are : characters ≡ encode_utf8_all row.1
  pub after_is : after ≡ rows_text later

-- the place of a letter's names among the groups
abbrev pub group_number : ℕ → Option ℕ
group_number letter =
    if nat_le 65 letter && nat_le letter 90 then Some (letter - 65)
    else if nat_le 97 letter && nat_le letter 122 then Some (letter - 97 + 26)
    else None

-- the name is one of the group with the number
abbrev pub belongs : ℕ → List ℕ → Bool
belongs number name = option_map_or (λ n. n == number) (group_number (slice_index name 0)) false

-- the groups from a number on are rows, each in the group of its letter
unfoldable pub are_groups : ℕ → List (List EntityRow) → Bool
are_groups number [] = true
are_groups number (rows ∷ groups) =
    list_all (λ row. is_row row && belongs number row.0) rows && are_groups (suc number) groups
