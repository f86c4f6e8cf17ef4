-- References whose link label no definition has, in JSON: a line for each, which is an object of how it is written,
-- whether it is an image, its label and its range. And those of a text, by definition.
use Rattle.std.specs.Prelude.{ℕ, Bool, true, false, List, [], ◌∷◌, ◌++◌, ◌==◌, codes, Option, None, Some, slice_get}
use Rattle.std.specs.Fmt.{decimal}
use Rattle.std.specs.List.{flat_map}
use Rattle.std.specs.Option.{option_map_or}
use Rattle.markdown_base.specs.Bytes.{exclamation_mark}
use Rattle.markdown_base.specs.Questions.{Question}
use Rattle.markdown_base.specs.Source.{Source}
use Rattle.markdown_inline.specs.Elements.{questions_of}
use Rattle.markdown_inline.specs.ReadingOfText.{reading_of_text}
use Rattle.markdown_json.specs.Json.{boolean, link_type_json, string}
use Rattle.markdown_lint_json.specs.PlaceJson.{object_end, place_in}
use Rattle.markdown_lint_json.specs.declared.place.Place.{Place}
use Rattle.markdown_out.specs.ByteLists.{joined}

-- whether a reference in a text is that of an image: whether it begins with `!`
abbrev pub is_image_in : (text : List ℕ) → Question → Bool
is_image_in text q = option_map_or (λ byte. byte == exclamation_mark) (slice_get text q.span.start) false

-- the object of a reference in a text, but for its end
abbrev pub broken_members : (text : List ℕ) → Question → List ℕ
broken_members text q = joined (codes "{\"link_type\":" ∷ link_type_json q.link_type
    ∷ codes ",\"image\":" ∷ boolean (is_image_in text q)
    ∷ codes ",\"reference\":" ∷ string q.reference
    ∷ codes ",\"range\":{\"start\":" ∷ decimal q.span.start
    ∷ codes ",\"end\":" ∷ decimal q.span.end ∷ codes "}" ∷ [])

-- the line of a reference, with the place of its range or without it
abbrev pub broken_link_line : (text : List ℕ) → Question → Option Place → List ℕ
broken_link_line text q place = broken_members text q ++ object_end place

-- the line without the place
abbrev pub bare_broken_line : (text : List ℕ) → Question → List ℕ
bare_broken_line text q = broken_link_line text q None

-- the lines of references, one after another
abbrev pub broken_lines : (text : List ℕ) → List Question → List ℕ
broken_lines text questions = flat_map (bare_broken_line text) questions

-- the line with the place
abbrev pub placed_broken_line : (text : List ℕ) → Question → List ℕ
placed_broken_line text q = broken_link_line text q (Some (place_in text q.span))

-- these lines, one after another
abbrev pub placed_broken_lines : (text : List ℕ) → List Question → List ℕ
placed_broken_lines text questions = flat_map (placed_broken_line text) questions

-- the references of a text whose link label no definition has: the questions of its reading with a callback that
-- answers None to each, which is what it is where no answers are given
abbrev pub broken_of_text : Source → List Question
broken_of_text s = questions_of (reading_of_text s true [])
