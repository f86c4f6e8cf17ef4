-- What `links` has read of an iterator: at the end, and if an allocation fails.
use Rattle.std.specs.Prelude.{◌≡◌, ◌<◌, ℕ, List, length, map, Result, Option}
use Rattle.std.specs.Iterator.{Yields, Drains}
use Rattle.std.specs.declared.ops.Range.{Range}
use Rattle.markdown_base.specs.declared.event.Event.{Event}
use Rattle.markdown_base.specs.declared.fault.Fault.{Fault}
use Rattle.markdown_links.specs.LinkEntries.{LinkEntryView, link_entries_of}
use Rattle.markdown_outline.specs.OutlineRead.{event_items, ranged_view}

-- the links and images of some events
abbrev pub links_of_events : List (Event × Range ℕ) → List LinkEntryView
links_of_events events = link_entries_of (map ranged_view events)

module _ {S : Type 0} (steps : S → Option (Result (Event × Range ℕ) Fault) → S → Type 0) (it : S) where
  -- these are the links and images of all events up to the first None
  pub record AreLinksOfAll (entries : List LinkEntryView) : Type 0 where
    pub events : List (Event × Range ℕ)
    pub read : Drains steps it (event_items events)
    pub are : entries ≡ links_of_events events

  -- the events read have a link or an image, so that memory was needed
  pub record NeedsLinkMemory : Type 0 where
    pub events : List (Event × Range ℕ)
    pub left : S
    pub read : Yields steps it (event_items events) left
    pub has_link : 0 < length (links_of_events events)
