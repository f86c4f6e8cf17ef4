-- The entries of an outline in JSON with the places of their ranges: the lines that there are without places, with four
-- more members at their ends.
use Rattle.std.specs.Prelude.{ℕ, Bool, List, [], ◌∷◌, ◌++◌, codes, None, Some, if◌then◌else◌}
use Rattle.std.specs.Fmt.{decimal}
use Rattle.std.specs.List.{flat_map}
use Rattle.markdown_json.specs.Json.{string}
use Rattle.markdown_lint_json.specs.PlaceJson.{object_end, place_in}
use Rattle.markdown_out.specs.ByteLists.{joined}
use Rattle.markdown_outline.specs.Outline.{EntryView}
use Rattle.markdown_text_json.specs.OutlineJson.{id_member}

-- the object of an entry, with its id or without it, but for its end
abbrev pub entry_members : (with_id : Bool) → EntryView → List ℕ
entry_members with_id e = joined (codes "{\"level\":" ∷ decimal e.level
    ∷ codes ",\"text\":" ∷ string e.text
    ∷ codes ",\"range\":{\"start\":" ∷ decimal e.range.start
    ∷ codes ",\"end\":" ∷ decimal e.range.end ∷ codes "}"
    ∷ id_member (if with_id then e.id else None) ∷ [])

-- its line with the place of its range in a text
abbrev pub placed_entry_line : (text : List ℕ) → (with_id : Bool) → EntryView → List ℕ
placed_entry_line text with_id e = entry_members with_id e ++ object_end (Some (place_in text e.range))

-- the lines of entries, one after another
abbrev pub placed_outline_lines : (text : List ℕ) → (with_ids : Bool) → List EntryView → List ℕ
placed_outline_lines text with_ids entries = flat_map (placed_entry_line text with_ids) entries
