-- Named entities (CommonMark 2.5): the names of HTML that end in `;`, by exact case.
use Rattle.std.specs.Prelude.{ℕ, nat_eq, List, [], ◌∷◌, ◌++◌, length, flat_map, encode_utf8_all}
use Rattle.std.specs.Prelude.{Option, Some, None, option_map, if◌then◌else◌}
use Rattle.std.specs.List.{starts_with}
use Rattle.markdown_base.specs.Bytes.{ampersand, semicolon}
use Rattle.markdown_entities.specs.EntityRow.{EntityRow}
use Rattle.markdown_entities.specs.EntityTable.{entity_groups}

-- all names with their characters
abbrev pub entity_rows : List EntityRow
entity_rows = flat_map (λ group. group) entity_groups

-- a row's name as it is written in a text
abbrev pub as_written : EntityRow → List ℕ
as_written row = ampersand ∷ (row.0 ++ (semicolon ∷ []))

-- the first row whose name the bytes begin with
unfoldable pub first_written : List EntityRow → List ℕ → Option EntityRow
first_written [] bytes = None
first_written (row ∷ rows) bytes =
    if starts_with nat_eq bytes (as_written row) then Some row else first_written rows bytes

-- the length in bytes of the named entity that the bytes begin with, and its characters
abbrev pub named_entity : List ℕ → Option (ℕ × List ℕ)
named_entity bytes = option_map (λ row. (length (as_written row), row.1)) (first_written entity_rows bytes)

-- its characters in UTF-8
abbrev pub in_utf8 : ℕ × List ℕ → ℕ × List ℕ
in_utf8 found = (found.0, encode_utf8_all found.1)
