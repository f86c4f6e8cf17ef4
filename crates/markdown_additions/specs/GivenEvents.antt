-- What an iterator of events with their ranges gives, and the first part of it.
use Rattle.std.specs.Prelude.{◌≡◌, ℕ, List, [], ◌∷◌, ◌++◌, map, Err, Option, Result}
use Rattle.std.specs.Iterator.{Drains, Yields}
use Rattle.std.specs.declared.ops.Range.{Range}
use Rattle.markdown_base.specs.declared.event.Event.{Event}
use Rattle.markdown_base.specs.declared.fault.Fault.{Fault}
use Rattle.markdown_base.specs.declared.fault.Fault.TheVariants.{Memory}
use Rattle.markdown_outline.specs.Outline.{Ranged}
use Rattle.markdown_outline.specs.OutlineRead.{event_items, ranged_view}

-- An iterator gives these events up to its first None. The first events that it gives have a property, and an error is
-- one of memory.
pub record GivesEvents {S : Type 0} (steps : S → Option (Result (Event × Range ℕ) Fault) → S → Type 0) (it : S)
    (events : List Ranged) (begins : List Ranged → Type 0) : Type 0 where
  pub whole : (given : List (Event × Range ℕ)) → Drains steps it (event_items given) → map ranged_view given ≡ events
  pub first : (given : List (Event × Range ℕ)) (left : S) → Yields steps it (event_items given) left
      → begins (map ranged_view given)
  pub memory : (given : List (Event × Range ℕ)) (left : S) (fault : Fault)
      → Yields steps it (event_items given ++ Err fault ∷ []) left → fault ≡ Memory
