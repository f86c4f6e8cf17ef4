-- The JSON of a text, by definition: the lines of its events, where no callback is asked.
use Rattle.std.specs.Prelude.{ℕ, List}
use Rattle.std.specs.List.{flat_map}
use Rattle.markdown_base.specs.Source.{Source}
use Rattle.markdown_inline.specs.Elements.{Placed}
use Rattle.markdown_inline.specs.ReadingOfText.{events_of_text}
use Rattle.markdown_json.specs.Json.{line_json}

-- the line of an event, with its range
abbrev pub placed_line : Placed → List ℕ
placed_line placed = line_json placed.0 placed.1.start placed.1.end

-- the lines of the events, one after another
abbrev pub json_of_text : Source → List ℕ
json_of_text s = flat_map placed_line (events_of_text s)
