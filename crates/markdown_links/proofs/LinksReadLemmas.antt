-- What the loop over the events keeps, and what follows from it where the loop is left.
use Rattle.std.proofs.Common.{◌≡◌, ◌<◌, ℕ, List, [], ◌∷◌, ◌++◌, Ok, Err, Result, Option, Some, None, length, map, sym}
use Rattle.std.proofs.Common.{ap, subst, ◌∙◌, append-nil}
use Rattle.std.specs.Iterator.{Yields}
use Rattle.std.specs.declared.ops.Range.{Range}
use Rattle.std.proofs.lemmas.List.{map-append}
use Rattle.std.proofs.iter.Next.{Yields-more}
use Rattle.markdown_base.specs.declared.event.Event.{Event}
use Rattle.markdown_base.specs.declared.fault.Fault.{Fault}
use Rattle.markdown_links.specs.FoundLinks.{AreKept, HasLink, all_links}
use Rattle.markdown_links.specs.LinkEntries.{LinkEntryView, link_entries_of}
use Rattle.markdown_links.specs.LinksRead.{AreLinksOfAll, NeedsLinkMemory, links_of_events}
use Rattle.markdown_links.specs.declared.so_far.LinksSoFar.{LinksSoFar}
use Rattle.markdown_outline.specs.Outline.{Ranged}
use Rattle.markdown_outline.specs.OutlineRead.{MeetsError, event_items, ranged_view}
use Rattle.markdown_outline.proofs.OutlineReadLemmas.{views-more, items-more}

abbrev Placed : Type 0
Placed = Event × Range ℕ

-- these events were read, and whatever events follow, the links of all are those so far with those
pub record TookIn (state : LinksSoFar) (yielded : List (Result Placed Fault)) : Type 0 where
  pub events : List Placed
  pub read : yielded ≡ event_items events
  pub kept : AreKept state
  pub makes : (later : List Ranged) → link_entries_of (map ranged_view events ++ later) ≡ all_links state later

-- before the first event
pub TookIn-none : (state : LinksSoFar) (yielded : List (Result Placed Fault)) → AreKept state
    → ((later : List Ranged) → all_links state later ≡ link_entries_of later) → yielded ≡ [] → TookIn state yielded
TookIn-none state yielded kept none read = record {
  events = [];
  read = read;
  kept = kept;
  makes = λ later. sym (none later);
}

-- after one more event
pub TookIn-more : {state state' : LinksSoFar} {yielded : List (Result Placed Fault)} {item : Result Placed Fault}
    (e : Placed)
    → TookIn state yielded → item ≡ Ok e → AreKept state'
    → ((later : List Ranged) → all_links state (ranged_view e ∷ later) ≡ all_links state' later)
    → TookIn state' (yielded ++ item ∷ [])
TookIn-more {state} {state'} {yielded} {item} e t is kept next = record {
  events = t.events ++ e ∷ [];
  read = items-more t.events e yielded item t.read is;
  kept = kept;
  makes = λ later.
      ap (λ (es : List Ranged). link_entries_of es) (views-more t.events e later)
      ∙ t.makes (ranged_view e ∷ later)
      ∙ next later;
}

module _ {S : Type 0} (steps : S → Option (Result Placed Fault) → S → Type 0) where
  -- an item is an error
  pub MeetsError-from : (it s u : S) {state : LinksSoFar} {yielded : List (Result Placed Fault)}
      {item : Result Placed Fault}
      (fault : Fault) → Yields steps it yielded s → steps s (Some item) u → item ≡ Err fault → TookIn state yielded
      → MeetsError steps it fault
  MeetsError-from it s u {state} {yielded} {item} fault y step is t = record {
    events = t.events;
    left = u;
    read = subst (λ (ys : List (Result Placed Fault)). Yields steps it ys u)
        (ap (λ (ys : List (Result Placed Fault)). ys ++ item ∷ []) t.read
        ∙ ap (λ (x : Result Placed Fault). event_items t.events ++ x ∷ []) is)
        (Yields-more steps it yielded s item u y step);
  }

  -- an allocation was refused at an event that is in a link, or begins one
  pub NeedsLinkMemory-event : (it s u : S) {state : LinksSoFar} {yielded : List (Result Placed Fault)}
      {item : Result Placed Fault}
      (e : Placed) → Yields steps it yielded s → steps s (Some item) u → item ≡ Ok e → TookIn state yielded
      → HasLink state (ranged_view e ∷ []) → NeedsLinkMemory steps it
  NeedsLinkMemory-event it s u {state} {yielded} {item} e y step is t has = record {
    events = t.events ++ e ∷ [];
    left = u;
    read = subst (λ (ys : List (Result Placed Fault)). Yields steps it ys u)
        (items-more t.events e yielded item t.read is)
        (Yields-more steps it yielded s item u y step);
    has_link = subst (λ (es : List LinkEntryView). 0 < length es)
        (sym (ap (λ (es : List Ranged). link_entries_of es)
        (map-append ranged_view t.events (e ∷ [])) ∙ t.makes (ranged_view e ∷ []))) has;
  }

  -- the links of the events read
  all-read : {state : LinksSoFar} {yielded : List (Result Placed Fault)} (t : TookIn state yielded)
      → links_of_events t.events ≡ all_links state []
  all-read t = ap (λ (es : List Ranged). link_entries_of es) (sym (append-nil (map ranged_view t.events)))
      ∙ t.makes []

  -- all events were read
  pub AreLinksOfAll-from : (it s u : S) {state : LinksSoFar} {yielded : List (Result Placed Fault)}
      {entries : List LinkEntryView}
      → Yields steps it yielded s → steps s None u → TookIn state yielded → entries ≡ all_links state []
      → AreLinksOfAll steps it entries
  AreLinksOfAll-from it s u y step t all = record {
    events = t.events;
    read = (u, (s, subst (λ (ys : List (Result Placed Fault)). Yields steps it ys s) t.read y, step));
    are = all ∙ sym (all-read t);
  }
