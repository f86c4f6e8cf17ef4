-- Events in JSON with the places of their ranges: the lines that there are without places, with one more element at
-- their ends. And what has been read and written: at the end, at an error among the items, and where an allocation was
-- refused.
use Rattle.std.specs.Prelude.{◌≡◌, ℕ, List, [], ◌∷◌, ◌++◌, codes, map, Err, Result, Option}
use Rattle.std.specs.Iterator.{Yields, Drains}
use Rattle.std.specs.List.{flat_map}
use Rattle.std.specs.declared.ops.Range.{Range}
use Rattle.markdown_base.specs.declared.event.Event.{Event}
use Rattle.markdown_base.specs.declared.fault.Fault.{Fault}
use Rattle.markdown_json.specs.Json.{line_start}
use Rattle.markdown_lint_json.specs.PlaceJson.{place_between, place_in}
use Rattle.markdown_out.specs.ByteLists.{AppendsPrefix}
use Rattle.markdown_outline.specs.Outline.{Ranged}
use Rattle.markdown_outline.specs.OutlineRead.{event_items, ranged_view}

-- the line of an event with the place of its range in a text
abbrev pub placed_event_line : (text : List ℕ) → Ranged → List ℕ
placed_event_line text e =
    line_start e.0 e.1.start e.1.end ++ place_between (codes ",{") (place_in text e.1) (codes "}]\n")

-- the lines of events, one after another
abbrev pub placed_event_lines : (text : List ℕ) → List Ranged → List ℕ
placed_event_lines text events = flat_map (placed_event_line text) events

module _ {S : Type 0} (steps : S → Option (Result (Event × Range ℕ) Fault) → S → Type 0) (text : List ℕ)
    (it : S) (old new : List ℕ) where
  -- these are all events up to the first None, and the old text is followed by their lines
  pub record IsWrittenWithPlaces : Type 0 where
    pub events : List (Event × Range ℕ)
    pub read : Drains steps it (event_items events)
    pub stands : new ≡ old ++ placed_event_lines text (map ranged_view events)

  -- the item after these events is this error, and the old text is followed by their lines
  pub record StopsWithPlaces (fault : Fault) : Type 0 where
    pub events : List (Event × Range ℕ)
    pub left : S
    pub read : Yields steps it (event_items events ++ Err fault ∷ []) left
    pub stands : new ≡ old ++ placed_event_lines text (map ranged_view events)

  -- an allocation was refused at the last event read: the old text is followed by the lines of the events before it,
  -- and then by a prefix of its own line
  pub record IsCutShortWithPlaces : Type 0 where
    pub events : List (Event × Range ℕ)
    pub last : Event × Range ℕ
    pub left : S
    pub read : Yields steps it (event_items (events ++ last ∷ [])) left
    pub stands : AppendsPrefix (old ++ placed_event_lines text (map ranged_view events)) new
        (placed_event_line text (ranged_view last))
