-- What `push_json` has read of an iterator and what the string then holds: at the end, at an error among the items, and
-- where an allocation of its own was refused.
use Rattle.std.specs.Prelude.{◌≡◌, ℕ, List, [], ◌∷◌, ◌++◌, map, Ok, Err, Result, Option}
use Rattle.std.specs.Iterator.{Yields, Drains}
use Rattle.std.specs.List.{flat_map}
use Rattle.std.specs.declared.ops.Range.{Range}
use Rattle.markdown_base.specs.Event.{event_view}
use Rattle.markdown_base.specs.declared.event.Event.{Event}
use Rattle.markdown_base.specs.declared.fault.Fault.{Fault}
use Rattle.markdown_out.specs.ByteLists.{AppendsPrefix}
use Rattle.markdown_json.specs.Json.{line_json}

-- an event with its range
abbrev pub PlacedEvent : Type 0
PlacedEvent = Event × Range ℕ

-- the line of an event with its range
abbrev pub json_line : PlacedEvent → List ℕ
json_line placed = line_json (event_view placed.0) placed.1.start placed.1.end

-- the lines of events, one after another
abbrev pub lines_of : List PlacedEvent → List ℕ
lines_of events = flat_map json_line events

-- events, as items of an iterator
abbrev pub placed_items : List PlacedEvent → List (Result PlacedEvent Fault)
placed_items events = map (λ e. Ok e) events

module _ {S : Type 0} (steps : S → Option (Result PlacedEvent Fault) → S → Type 0)
    (it : S) (old new : List ℕ) where
  -- these are all events up to the first None, and the old text is followed by their lines
  pub record IsWritten : Type 0 where
    pub events : List PlacedEvent
    pub read : Drains steps it (placed_items events)
    pub stands : new ≡ old ++ lines_of events

  -- the item after these events is this error, and the old text is followed by their lines
  pub record StopsAtError (fault : Fault) : Type 0 where
    pub events : List PlacedEvent
    pub left : S
    pub read : Yields steps it (placed_items events ++ Err fault ∷ []) left
    pub stands : new ≡ old ++ lines_of events

  -- an allocation was refused at the last event read: the old text is followed by the lines of the events before
  -- it, and then by a prefix of its own line
  pub record IsCutShort : Type 0 where
    pub events : List PlacedEvent
    pub last : PlacedEvent
    pub left : S
    pub read : Yields steps it (placed_items (events ++ last ∷ [])) left
    pub stands : AppendsPrefix (old ++ lines_of events) new (json_line last)
