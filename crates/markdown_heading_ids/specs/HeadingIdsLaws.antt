-- What a new `HeadingIds` returns in a whole run, and in the first part of one.
use Rattle.std.specs.Prelude.{◌≡◌, ◌⊎◌, false, List, [], ◌∷◌, ◌++◌, map, Err, Option, Some, None}
use Rattle.std.specs.Iterator.{Drains, Yields}
use Rattle.std.specs.declared.ops.Range.{Range}
use Rattle.markdown_base.specs.declared.event.Event.{Event}
use Rattle.markdown_base.specs.declared.fault.Fault.{Fault}
use Rattle.markdown_base.specs.declared.fault.Fault.TheVariants.{Memory}
use Rattle.markdown_heading_ids.specs.HeadingIds.{Id, with_ids}
use Rattle.markdown_heading_ids.specs.HeadingIdsNext.{IdsState, SourceItem, ids_steps}
use Rattle.markdown_heading_ids.specs.TakenIds.{StandsFor}
use Rattle.markdown_outline.specs.Outline.{Ranged}
use Rattle.markdown_outline.specs.OutlineRead.{event_items, ranged_view}
use Rattle.std.specs.Prelude.{ℕ}

-- an adapter has read nothing yet, and these ids are taken
pub record IsNewIds {S : Type 0} (s : IdsState S) (taken : List Id) : Type 0 where
  pub nothing : s.kept ≡ []
  pub outside : s.inside ≡ false
  pub goes_on : s.over ≡ false
  pub stands : StandsFor s.taken taken

-- these events are the first of those
pub record AreFirstOf (first all : List Ranged) : Type 0 where
  pub missing : List Ranged
  pub is : all ≡ first ++ missing

module _ {S : Type 0} (steps : S → Option SourceItem → S → Type 0) where
  -- the iterator returned no event, but an error, or None
  abbrev pub StopsAt : S → Type 0
  StopsAt s = (t : S) × (steps s None t ⊎ ((fault : Fault) × steps s (Some (Err fault)) t))

  module _ (it : S) (taken : List Id) (given : List (Event × Range ℕ)) where
    -- these are all events of the iterator up to its first None, and those returned are the same with their ids
    pub record AreAllWithIds : Type 0 where
      pub events : List (Event × Range ℕ)
      pub read : Drains steps it (event_items events)
      pub are : map ranged_view given ≡ with_ids taken (map ranged_view events)

    -- these events of the iterator were read, and those returned are the first of them with their ids, whatever events
    -- follow
    pub record AreFirstWithIds : Type 0 where
      pub events : List (Event × Range ℕ)
      pub left : S
      pub read : Yields steps it (event_items events) left
      pub first : AreFirstOf (map ranged_view given) (with_ids taken (map ranged_view events))
      pub stays : StopsAt left ⊎ ((later : List Ranged)
          → AreFirstOf (map ranged_view given) (with_ids taken (map ranged_view events ++ later)))

    -- these are the events of the iterator before this error, and those returned are the same with their ids
    pub record AreWithIdsUntil (fault : Fault) : Type 0 where
      pub events : List (Event × Range ℕ)
      pub left : S
      pub read : Yields steps it (event_items events ++ Err fault ∷ []) left
      pub are : map ranged_view given ≡ with_ids taken (map ranged_view events)

  -- what is returned where these ids are taken: up to None the events with their ids, at any time the first of them;
  -- and before an error those before it, unless memory is refused
  pub record ReturnsWithIds {M : Type 0} (state : M → IdsState S) (taken : List Id) (m : M) : Type 0 where
    pub all : (given : List (Event × Range ℕ)) → Drains (ids_steps steps state) m (event_items given)
        → AreAllWithIds (state m).iter taken given
    pub first : (given : List (Event × Range ℕ)) (t : M) → Yields (ids_steps steps state) m (event_items given) t
        → AreFirstWithIds (state m).iter taken given
    pub error : (given : List (Event × Range ℕ)) (t : M) (fault : Fault)
        → Yields (ids_steps steps state) m (event_items given ++ Err fault ∷ []) t
        → AreWithIdsUntil (state m).iter taken given fault ⊎ (fault ≡ Memory)
