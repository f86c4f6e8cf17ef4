-- What the loop over the events keeps, and what follows from it where the loop is left.
use Rattle.std.proofs.Common.{◌≡◌, ◌<◌, ℕ, false, List, [], ◌∷◌, ◌++◌, Ok, Err, Result, Option, Some, None, length, map}
use Rattle.std.proofs.Common.{sym, ap, subst, ◌∙◌, append_assoc, append-nil}
use Rattle.std.specs.Iterator.{Yields}
use Rattle.std.specs.declared.ops.Range.{Range}
use Rattle.std.proofs.lemmas.List.{map-append}
use Rattle.std.proofs.iter.Next.{Yields-more}
use Rattle.markdown_base.specs.declared.event.Event.{Event}
use Rattle.markdown_base.specs.declared.fault.Fault.{Fault}
use Rattle.markdown_outline.specs.Outline.{Ranged, EntryView, entries_from}
use Rattle.markdown_outline.specs.OutlineRead.{ranged_view, entries_of_events, event_items, IsOutlineOfAll, MeetsError}
use Rattle.markdown_outline.specs.OutlineRead.{NeedsMemory}
use Rattle.markdown_outline.specs.OutlineSoFar.{EntriesView, HasEntry, all_entries}

abbrev Placed : Type 0
Placed = Event × Range ℕ

-- these events were read, and whatever events follow, the outline of all is that of the entries so far with those
pub record TookIn (state : EntriesView) (yielded : List (Result Placed Fault)) : Type 0 where
  pub events : List Placed
  pub read : yielded ≡ event_items events
  pub makes : (later : List Ranged) → entries_from false (map ranged_view events ++ later) ≡ all_entries state later

-- before the first event
pub TookIn-none : (state : EntriesView) (yielded : List (Result Placed Fault)) → state
    ≡ record { ended = []; open_entry = None }
    → yielded ≡ [] → TookIn state yielded
TookIn-none state yielded none read = record {
  events = [];
  read = read;
  makes = λ later. ap (λ (s : EntriesView). all_entries s later) (sym none);
}

pub items-more : (events : List Placed) (e : Placed) (yielded : List (Result Placed Fault)) (item : Result Placed Fault)
    → yielded ≡ event_items events → item ≡ Ok e → yielded ++ item ∷ [] ≡ event_items (events ++ e ∷ [])
items-more events e yielded item y i =
    ap (λ (ys : List (Result Placed Fault)). ys ++ item ∷ []) y
    ∙ ap (λ (x : Result Placed Fault). event_items events ++ x ∷ []) i
    ∙ sym (map-append (λ (e : Placed). Ok e) events (e ∷ []))

pub views-more : (events : List Placed) (e : Placed) (later : List Ranged)
    → map ranged_view (events ++ e ∷ []) ++ later ≡ map ranged_view events ++ ranged_view e ∷ later
views-more events e later =
    ap (λ (es : List Ranged). es ++ later) (map-append ranged_view events (e ∷ []))
    ∙ append_assoc (map ranged_view events) (ranged_view e ∷ []) later

-- after one more event
pub TookIn-more : {state state' : EntriesView} {yielded : List (Result Placed Fault)} {item : Result Placed Fault}
    (e : Placed)
    → TookIn state yielded → item ≡ Ok e
    → ((later : List Ranged) → all_entries state (ranged_view e ∷ later) ≡ all_entries state' later)
    → TookIn state' (yielded ++ item ∷ [])
TookIn-more {state} {state'} {yielded} {item} e t is next = record {
  events = t.events ++ e ∷ [];
  read = items-more t.events e yielded item t.read is;
  makes = λ later.
      ap (λ (es : List Ranged). entries_from false es) (views-more t.events e later)
      ∙ t.makes (ranged_view e ∷ later)
      ∙ next later;
}

module _ {S : Type 0} (steps : S → Option (Result Placed Fault) → S → Type 0) where
  -- an item is an error
  pub MeetsError-from : (it s u : S) {state : EntriesView} {yielded : List (Result Placed Fault)}
      {item : Result Placed Fault}
      (fault : Fault) → Yields steps it yielded s → steps s (Some item) u → item ≡ Err fault → TookIn state yielded
      → MeetsError steps it fault
  MeetsError-from it s u {state} {yielded} {item} fault y step is t = record {
    events = t.events;
    left = u;
    read = subst (λ (ys : List (Result Placed Fault)). Yields steps it ys u)
        (ap (λ (ys : List (Result Placed Fault)). ys ++ item ∷ []) t.read
        ∙ ap (λ (x : Result Placed Fault). event_items t.events ++ x ∷ []) is)
        (Yields-more steps it yielded s item u y step);
  }

  -- an allocation was refused at an event that is in a heading, or begins one
  pub NeedsMemory-event : (it s u : S) {state : EntriesView} {yielded : List (Result Placed Fault)}
      {item : Result Placed Fault}
      (e : Placed) → Yields steps it yielded s → steps s (Some item) u → item ≡ Ok e → TookIn state yielded
      → HasEntry state (ranged_view e ∷ []) → NeedsMemory steps it
  NeedsMemory-event it s u {state} {yielded} {item} e y step is t has = record {
    events = t.events ++ e ∷ [];
    left = u;
    read = subst (λ (ys : List (Result Placed Fault)). Yields steps it ys u)
        (items-more t.events e yielded item t.read is)
        (Yields-more steps it yielded s item u y step);
    has_entry = subst (λ (es : List EntryView). 0 < length es)
        (sym (ap (λ (es : List Ranged). entries_from false es)
        (map-append ranged_view t.events (e ∷ [])) ∙ t.makes (ranged_view e ∷ []))) has;
  }

  -- the entries of the events read
  all-read : {state : EntriesView} {yielded : List (Result Placed Fault)} (t : TookIn state yielded)
      → entries_of_events t.events ≡ all_entries state []
  all-read t = ap (λ (es : List Ranged). entries_from false es) (sym (append-nil (map ranged_view t.events)))
      ∙ t.makes []

  -- an allocation was refused at the end, where a heading has no End
  pub NeedsMemory-end : (it s : S) {state : EntriesView} {yielded : List (Result Placed Fault)}
      → Yields steps it yielded s
      → TookIn state yielded → HasEntry state [] → NeedsMemory steps it
  NeedsMemory-end it s {state} y t has = record {
    events = t.events;
    left = s;
    read = subst (λ (ys : List (Result Placed Fault)). Yields steps it ys s) t.read y;
    has_entry = subst (λ (es : List EntryView). 0 < length es) (sym (all-read t)) has;
  }

  -- all events were read
  pub IsOutlineOfAll-from : (it s u : S) {state : EntriesView} {yielded : List (Result Placed Fault)}
      {entries : List EntryView}
      → Yields steps it yielded s → steps s None u → TookIn state yielded → entries ≡ all_entries state []
      → IsOutlineOfAll steps it entries
  IsOutlineOfAll-from it s u y step t all = record {
    events = t.events;
    read = (u, (s, subst (λ (ys : List (Result Placed Fault)). Yields steps it ys s) t.read y, step));
    are = all ∙ sym (all-read t);
  }
