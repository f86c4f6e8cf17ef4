-- Links and images in JSON: a line for each, which is an object of its kind, its type, its destination, its title, its
-- label, its text and its range. And those of a text, by definition.
use Rattle.std.specs.Prelude.{ℕ, Bool, true, false, List, [], ◌∷◌, ◌++◌, codes, Option, None, Some}
use Rattle.std.specs.Fmt.{decimal}
use Rattle.std.specs.List.{flat_map}
use Rattle.markdown_base.specs.Source.{Source}
use Rattle.markdown_json.specs.Json.{link_type_json, string}
use Rattle.markdown_links.specs.LinkEntries.{LinkEntryView}
use Rattle.markdown_links.specs.LinksOfText.{links_of_text}
use Rattle.markdown_lint_json.specs.PlaceJson.{object_end, place_in}
use Rattle.markdown_lint_json.specs.declared.place.Place.{Place}
use Rattle.markdown_out.specs.ByteLists.{joined}

abbrev pub kind_json : (is_image : Bool) → List ℕ
kind_json true = codes "\"image\""
kind_json false = codes "\"link\""

-- the object of an entry, but for its end
abbrev pub link_members : LinkEntryView → List ℕ
link_members e = joined (codes "{\"kind\":" ∷ kind_json e.is_image
    ∷ codes ",\"link_type\":" ∷ link_type_json e.leads.kind
    ∷ codes ",\"dest_url\":" ∷ string e.leads.destination
    ∷ codes ",\"title\":" ∷ string e.leads.title
    ∷ codes ",\"id\":" ∷ string e.leads.label
    ∷ codes ",\"text\":" ∷ string e.text
    ∷ codes ",\"range\":{\"start\":" ∷ decimal e.range.start
    ∷ codes ",\"end\":" ∷ decimal e.range.end ∷ codes "}" ∷ [])

-- the line of an entry, with the place of its range or without it
abbrev pub link_line : LinkEntryView → Option Place → List ℕ
link_line e place = link_members e ++ object_end place

-- the line without the place
abbrev pub bare_link_line : LinkEntryView → List ℕ
bare_link_line e = link_line e None

-- the lines of entries, one after another
abbrev pub link_lines : List LinkEntryView → List ℕ
link_lines entries = flat_map bare_link_line entries

-- the line with the place in a text
abbrev pub placed_link_line : (text : List ℕ) → LinkEntryView → List ℕ
placed_link_line text e = link_line e (Some (place_in text e.range))

-- these lines, one after another
abbrev pub placed_link_lines : (text : List ℕ) → List LinkEntryView → List ℕ
placed_link_lines text entries = flat_map (placed_link_line text) entries

-- the lines of the links and images of a text
abbrev pub links_json_of_text : Source → List ℕ
links_json_of_text s = link_lines (links_of_text s)
