-- The entries of an outline in JSON: a line for each, which is an object of its level, its text and its range, and with
-- ids also of its id, if it has one. And those of a text, by definition: of its headings, where no callback is asked.
use Rattle.std.specs.Prelude.{ℕ, Bool, true, false, List, [], ◌∷◌, ◌++◌, codes, Option, Some, None, if◌then◌else◌}
use Rattle.std.specs.Fmt.{decimal}
use Rattle.std.specs.List.{flat_map}
use Rattle.markdown_out.specs.ByteLists.{joined}
use Rattle.markdown_outline.specs.Outline.{EntryView}
use Rattle.markdown_json.specs.Json.{string}
use Rattle.markdown_base.specs.Source.{Source}
use Rattle.markdown_outline.specs.OutlineOfText.{outline_of_text}

-- the member of an id; without an id there is none
abbrev pub id_member : Option (List ℕ) → List ℕ
id_member None = []
id_member (Some id) = codes ",\"id\":" ++ string id

-- the line of an entry, by its text, the digits of its numbers, and the id that it shows
abbrev pub entry_parts : (level text start end : List ℕ) → Option (List ℕ) → List ℕ
entry_parts level text start end id = joined (codes "{\"level\":" ∷ level ∷ codes ",\"text\":" ∷ string text
    ∷ codes ",\"range\":{\"start\":" ∷ start ∷ codes ",\"end\":" ∷ end ∷ codes "}" ∷ id_member id ∷ codes "}\n" ∷ [])

-- the line of an entry, with its id or without it
abbrev pub entry_line : (with_id : Bool) → EntryView → List ℕ
entry_line with_id e = entry_parts (decimal e.level) e.text (decimal e.range.start) (decimal e.range.end)
    (if with_id then e.id else None)

-- the lines of entries, one after another, without ids
abbrev pub outline_lines : List EntryView → List ℕ
outline_lines entries = flat_map (entry_line false) entries

-- the same with ids
abbrev pub outline_lines_with_ids : List EntryView → List ℕ
outline_lines_with_ids entries = flat_map (entry_line true) entries

-- the lines of the headings of a text
abbrev pub outline_json_of_text : Source → List ℕ
outline_json_of_text s = outline_lines (outline_of_text s)
