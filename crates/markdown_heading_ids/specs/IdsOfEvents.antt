-- Laws of events with the ids of their headings.
use Rattle.std.specs.Prelude.{◌≡◌, ◌⊎◌, ◌+◌, ◌<◌, ◌^◌, Bool, true, false, not, if◌then◌else◌}
use Rattle.std.specs.Prelude.{List, [], ◌∷◌, ◌++◌, map, Option, Some, None, IsSome}
use Rattle.std.specs.Prelude.{is_some, length}
use Rattle.std.specs.List.{AllZip}
use Rattle.markdown_base.specs.Event.{HeadingView, heading, start}
use Rattle.markdown_heading_ids.specs.HeadingIds.{Id, event_ids, is_taken, lacks_id, with_all_ids, with_ids}
use Rattle.markdown_out.specs.EventRanges.{through_ranges}
use Rattle.markdown_out.specs.Merge.{merged}
use Rattle.markdown_outline.specs.Outline.{EntryView, Ranged, ends_heading, entries_of, opened_heading}
use Rattle.markdown_outline.specs.OutlineLaws.{merge_items}

-- the second event is the first, or both are the Start of a heading, which has no id in the first
pub record GainsId (before after : Ranged) : Type 0 where
  pub heading_is : HeadingView
  pub id : Id
  pub starts : before.0 ≡ start (heading heading_is)
  pub lacks : heading_is.id ≡ None
  pub gains : after ≡ (start (heading (record heading_is { id = Some id })), before.1)

-- without the ids that are given, the events are those before: as many, in their order, with their ranges
abbrev pub OnlyIdsAreAdded : Type 0
OnlyIdsAreAdded = (taken : List Id) (events : List Ranged)
    → AllZip (λ (e f : Ranged). (f ≡ e) ⊎ GainsId e f) events (with_ids taken events)

-- a heading has an id, if there is one
abbrev pub HasId : Option HeadingView → Type 0
HasId None = Unit {0}
HasId (Some h) = IsSome h.id

-- each Start of a heading that is in no heading has an id
abbrev pub HaveIdsFrom : (inside : Bool) → List Ranged → Type 0
HaveIdsFrom inside [] = Unit {0}
HaveIdsFrom true (e ∷ events) = HaveIdsFrom (not (ends_heading e.0)) events
HaveIdsFrom false (e ∷ events) = HasId (opened_heading e.0) × HaveIdsFrom (is_some (opened_heading e.0)) events

abbrev pub EachHeadingHasAnId : Type 0
EachHeadingHasAnId = (taken : List Id) (events : List Ranged) → HaveIdsFrom false (with_ids taken events)

-- the ids that were given, read off the events before and after: wherever the event before is the Start of a heading
-- without an id, the id of the event after
abbrev pub ids_given : (before after : List Ranged) → List Id
ids_given [] after = []
ids_given (e ∷ before) [] = []
ids_given (e ∷ before) (f ∷ after) = (if lacks_id e.0 then event_ids f.0 else []) ++ ids_given before after

-- none of these ids is taken, and each differs from those before it
abbrev pub AreFresh : (taken : List Id) → List Id → Type 0
AreFresh taken [] = Unit {0}
AreFresh taken (id ∷ ids) = (is_taken taken id ≡ false) × AreFresh (id ∷ taken) ids

-- the ids given are fresh, where there are not too many to count
abbrev pub GivenIdsAreFresh : Type 0
GivenIdsAreFresh = (taken : List Id) (events : List Ranged) → length taken + length events < 2 ^ 64
    → AreFresh taken (ids_given events (with_ids taken events))

-- where each heading has an id, none is given: a second time changes nothing
abbrev pub ASecondTimeChangesNothing : Type 0
ASecondTimeChangesNothing = (taken again : List Id) (events : List Ranged)
    → with_ids again (with_ids taken events) ≡ with_ids taken events

-- the id of a heading, if there is one, which may have none
abbrev pub heading_ids : Option HeadingView → List (Option Id)
heading_ids None = []
heading_ids (Some h) = h.id ∷ []

-- the ids of the headings that begin among these events
abbrev pub start_ids_from : (inside : Bool) → List Ranged → List (Option Id)
start_ids_from inside [] = []
start_ids_from true (e ∷ events) = start_ids_from (not (ends_heading e.0)) events
start_ids_from false (e ∷ events) = heading_ids (opened_heading e.0)
    ++ start_ids_from (is_some (opened_heading e.0)) events

-- an entry without its id
abbrev pub without_id : EntryView → EntryView
without_id entry = record entry { id = None }

-- the outline has the levels, the texts and the ranges of that of the events, and the ids of the Starts
pub record OutlineHasIds (taken : List Id) (events : List Ranged) : Type 0 where
  pub same : map without_id (entries_of (with_ids taken events)) ≡ map without_id (entries_of events)
  pub ids : map (λ (entry : EntryView). entry.id) (entries_of (with_ids taken events))
      ≡ start_ids_from false (with_ids taken events)

abbrev pub OutlinesHaveIds : Type 0
OutlinesHaveIds = (taken : List Id) (events : List Ranged) → OutlineHasIds taken events

-- where the merge of these events is a list of events, that of the events with their ids is that list with its ids
abbrev pub MergingKeepsIds : Type 0
MergingKeepsIds = (events given : List Ranged) → merged through_ranges (merge_items events) ≡ merge_items given
    → merged through_ranges (merge_items (with_all_ids events)) ≡ merge_items (with_all_ids given)
