-- The lines of entries, by the entries' views.
use Rattle.std.proofs.Common.{◌≡◌, ℕ, Bool, List, sym, map}
use Rattle.std.specs.List.{flat_map}
use Rattle.std.proofs.lemmas.List.Folds.{flat_map-map}
use Rattle.markdown_outline.specs.Outline.{entry_view}
use Rattle.markdown_outline.specs.declared.entry.Entry.{Entry}
use Rattle.markdown_text_json.specs.OutlineJson.{entry_line}

-- the line of an entry, by its view
abbrev pub line_of_entry : (with_ids : Bool) → Entry → List ℕ
line_of_entry with_ids e = entry_line with_ids (entry_view e)

-- these, one after another, are the lines of the entries' views
pub lines_of_entries : (with_ids : Bool) (entries : List Entry)
    → flat_map (line_of_entry with_ids) entries ≡ flat_map (entry_line with_ids) (map entry_view entries)
lines_of_entries with_ids entries = sym (flat_map-map (entry_line with_ids) entry_view entries)
