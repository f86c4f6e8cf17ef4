-- The place of a range in JSON: four members, the line and the column of both its ends.
use Rattle.std.specs.Prelude.{ℕ, List, [], ◌∷◌, codes, Option, Some, None}
use Rattle.std.specs.Fmt.{decimal}
use Rattle.std.specs.declared.ops.Range.{Range}
use Rattle.markdown_lint_json.specs.declared.place.Place.{Place}
use Rattle.markdown_out.specs.ByteLists.{joined}
use Rattle.markdown_positions.specs.Positions.{position_of}

-- the place of a range in a text
abbrev pub place_in : (text : List ℕ) → Range ℕ → Place
place_in text range = record { start = position_of text range.start; end = position_of text range.end }

-- the four members of a place, between other bytes
abbrev pub place_between : (before : List ℕ) → Place → (after : List ℕ) → List ℕ
place_between before p after = joined (before ∷ codes "\"line\":" ∷ decimal p.start.line
    ∷ codes ",\"column\":" ∷ decimal p.start.column
    ∷ codes ",\"end_line\":" ∷ decimal p.end.line
    ∷ codes ",\"end_column\":" ∷ decimal p.end.column ∷ after ∷ [])

-- the end of a line that is an object, with the members of a place as its last, or without them
abbrev pub object_end : Option Place → List ℕ
object_end None = codes "}\n"
object_end (Some place) = place_between (codes ",") place (codes "}\n")
