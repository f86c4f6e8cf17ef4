-- What `outline` has read of an iterator: at the end, at an error among the items, and if an allocation fails.
use Rattle.std.specs.Prelude.{◌≡◌, ◌<◌, ℕ, List, [], ◌∷◌, ◌++◌, length, map, Ok, Err, Result, Option}
use Rattle.std.specs.Iterator.{Yields, Drains}
use Rattle.std.specs.declared.ops.Range.{Range}
use Rattle.markdown_base.specs.Event.{event_view}
use Rattle.markdown_base.specs.declared.event.Event.{Event}
use Rattle.markdown_base.specs.declared.fault.Fault.{Fault}
use Rattle.markdown_outline.specs.Outline.{Ranged, EntryView, entries_of}

-- the view of an event, with its range
abbrev pub ranged_view : Event × Range ℕ → Ranged
ranged_view e = (event_view e.0, e.1)

-- the entries of some events
abbrev pub entries_of_events : List (Event × Range ℕ) → List EntryView
entries_of_events events = entries_of (map ranged_view events)

-- events, as items of an iterator
abbrev pub event_items : List (Event × Range ℕ) → List (Result (Event × Range ℕ) Fault)
event_items events = map (λ e. Ok e) events

module _ {S : Type 0} (steps : S → Option (Result (Event × Range ℕ) Fault) → S → Type 0) (it : S) where
  -- these are the entries of all events up to the first None
  pub record IsOutlineOfAll (entries : List EntryView) : Type 0 where
    pub events : List (Event × Range ℕ)
    pub read : Drains steps it (event_items events)
    pub are : entries ≡ entries_of_events events

  -- some events were read, and the next item is this error
  pub record MeetsError (fault : Fault) : Type 0 where
    pub events : List (Event × Range ℕ)
    pub left : S
    pub read : Yields steps it (event_items events ++ Err fault ∷ []) left

  -- the events read have an entry, so that memory was needed
  pub record NeedsMemory : Type 0 where
    pub events : List (Event × Range ℕ)
    pub left : S
    pub read : Yields steps it (event_items events) left
    pub has_entry : 0 < length (entries_of_events events)
