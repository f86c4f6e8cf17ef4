-- A text with its backslash escapes (CommonMark 2.4) and its entities (2.5) replaced by their characters.
use Rattle.std.specs.Prelude.{ℕ, suc, zero, ◌-◌, Bool, ◌&&◌, ◌==◌, List, [], ◌∷◌, ◌++◌, Option, Some, None}
use Rattle.std.specs.Prelude.{if◌then◌else◌, encode_utf8_all}
use Rattle.std.specs.Option.{option_map, option_map_or, option_or}
use Rattle.std.specs.Char.{is_ascii_punctuation}
use Rattle.markdown_base.specs.Bytes.{backslash, pipe}
use Rattle.markdown_scan.specs.Entity.{entity, with_one}
use Rattle.markdown_scan.specs.Beginnings.{begins_with}
use Rattle.markdown_scan.specs.declared.entity.EntityNames.{EntityNames}

-- a backslash before ASCII punctuation: two bytes, which are replaced by the punctuation
abbrev pub escaped_mark : List ℕ → Option (ℕ × ℕ)
escaped_mark [] = None
escaped_mark (b ∷ []) = None
escaped_mark (b ∷ mark ∷ bytes) =
    if (b == backslash) && is_ascii_punctuation mark then Some (2, mark) else None

-- the escape that the bytes begin with: its length, and its character. In a table, two backslashes and a pipe are
-- replaced by the pipe.
abbrev pub escape : Bool → List ℕ → Option (ℕ × ℕ)
escape in_table bytes =
    if in_table && begins_with (backslash ∷ backslash ∷ pipe ∷ []) bytes then Some (3, pipe) else escaped_mark bytes

-- the escape or entity that the bytes begin with: its length, and its characters
abbrev pub escape_or_entity : EntityNames → Bool → List ℕ → Option (ℕ × List ℕ)
escape_or_entity names in_table bytes = option_or (option_map with_one (escape in_table bytes)) (entity names bytes)

-- the bytes with their escapes and entities replaced, without the first `passed` bytes, which belong to an earlier one
abbrev pub unescaped_past : EntityNames → Bool → ℕ → List ℕ → List ℕ
unescaped_past names in_table passed [] = []
unescaped_past names in_table (suc passed) (b ∷ bytes) = unescaped_past names in_table passed bytes
unescaped_past names in_table zero (b ∷ bytes) =
    let found = escape_or_entity names in_table (b ∷ bytes) in
    option_map_or (λ r. encode_utf8_all r.1) found (b ∷ [])
    ++ unescaped_past names in_table (option_map_or (λ r. r.0 - 1) found 0) bytes

-- the text with its escapes, and its entities by these names, replaced
abbrev pub unescaped : EntityNames → Bool → List ℕ → List ℕ
unescaped names in_table text = unescaped_past names in_table 0 text
