-- What a new `Autolinks` returns in a whole run, and in the first part of one.
use Rattle.std.specs.Prelude.{◌≡◌, ◌⊎◌, ℕ, false, List, [], ◌∷◌, ◌++◌, map, Ok, Err, Option, Some, None}
use Rattle.std.specs.Iterator.{Drains, Yields}
use Rattle.std.specs.declared.ops.Range.{Range}
use Rattle.markdown_base.specs.Event.{event_view}
use Rattle.markdown_base.specs.declared.event.Event.{Event}
use Rattle.markdown_base.specs.declared.fault.Fault.{Fault}
use Rattle.markdown_base.specs.declared.fault.Fault.TheVariants.{Memory}
use Rattle.markdown_out.specs.OutLaws.{RangedEvent}
use Rattle.markdown_autolinks.specs.AutolinksNext.{LinkedState, SourceItem, linked_steps}
use Rattle.markdown_autolinks.specs.LinkedEvents.{with_addresses}

-- an event with its range, without the memory that holds its texts
abbrev pub event_read : Event × Range ℕ → RangedEvent
event_read e = (event_view e.0, e.1)

-- events, as items of an iterator
abbrev pub events_read : List (Event × Range ℕ) → List SourceItem
events_read events = map (λ e. Ok e) events

-- an adapter of the events of a source has read nothing yet
pub record IsNewLinked {S : Type 0} (s : LinkedState S) (source : List ℕ) : Type 0 where
  pub of : s.source ≡ source
  pub nothing : s.kept ≡ []
  pub outside : s.inside ≡ 0
  pub goes_on : s.over ≡ false

-- these events are the first of those
pub record AreFirstEvents (first all : List RangedEvent) : Type 0 where
  pub missing : List RangedEvent
  pub is : all ≡ first ++ missing

module _ {S : Type 0} (steps : S → Option SourceItem → S → Type 0) where
  -- the iterator returned no event, but an error, or None
  abbrev pub StopsAt : S → Type 0
  StopsAt s = (t : S) × (steps s None t ⊎ ((fault : Fault) × steps s (Some (Err fault)) t))

  module _ (it : S) (source : List ℕ) (given : List (Event × Range ℕ)) where
    -- these are all events of the iterator up to its first None, and those returned are the same with their addresses
    -- as links
    pub record AreAllLinked : Type 0 where
      pub events : List (Event × Range ℕ)
      pub read : Drains steps it (events_read events)
      pub are : map event_read given ≡ with_addresses source (map event_read events)

    -- these events of the iterator were read, and those returned are the first of them with their addresses as links,
    -- whatever events follow
    pub record AreFirstLinked : Type 0 where
      pub events : List (Event × Range ℕ)
      pub left : S
      pub read : Yields steps it (events_read events) left
      pub first : AreFirstEvents (map event_read given) (with_addresses source (map event_read events))
      pub stays : StopsAt left ⊎ ((later : List RangedEvent)
          → AreFirstEvents (map event_read given) (with_addresses source (map event_read events ++ later)))

    -- these are the events of the iterator before this error, and those returned are the same with their addresses as
    -- links
    pub record AreLinkedUntil (fault : Fault) : Type 0 where
      pub events : List (Event × Range ℕ)
      pub left : S
      pub read : Yields steps it (events_read events ++ Err fault ∷ []) left
      pub are : map event_read given ≡ with_addresses source (map event_read events)

  -- what is returned of the events of a source: up to None the events with their addresses as links, at any time the
  -- first of them; and before an error those before it, unless memory is refused
  pub record ReturnsLinked {M : Type 0} (state : M → LinkedState S) (source : List ℕ) (m : M) : Type 0 where
    pub all : (given : List (Event × Range ℕ)) → Drains (linked_steps steps state) m (events_read given)
        → AreAllLinked (state m).iter source given
    pub first : (given : List (Event × Range ℕ)) (t : M) → Yields (linked_steps steps state) m (events_read given) t
        → AreFirstLinked (state m).iter source given
    pub error : (given : List (Event × Range ℕ)) (t : M) (fault : Fault)
        → Yields (linked_steps steps state) m (events_read given ++ Err fault ∷ []) t
        → AreLinkedUntil (state m).iter source given fault ⊎ (fault ≡ Memory)
