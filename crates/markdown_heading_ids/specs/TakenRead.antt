-- What is taken once all events of an iterator are read.
use Rattle.std.specs.Prelude.{ℕ, List, map, Option, Result}
use Rattle.std.specs.Iterator.{Drains}
use Rattle.std.specs.declared.ops.Range.{Range}
use Rattle.markdown_base.specs.declared.event.Event.{Event}
use Rattle.markdown_base.specs.declared.fault.Fault.{Fault}
use Rattle.markdown_heading_ids.specs.HeadingIds.{taken_from_the_start}
use Rattle.markdown_heading_ids.specs.TakenIds.{StandsFor}
use Rattle.markdown_heading_ids.specs.declared.taken.Taken.{Taken}
use Rattle.markdown_outline.specs.OutlineRead.{event_items, ranged_view}

-- this is what is taken from the start by all events up to the first None
pub record IsTakenByAll {S : Type 0} (steps : S → Option (Result (Event × Range ℕ) Fault) → S → Type 0) (it : S)
    (t : Taken) : Type 0 where
  pub events : List (Event × Range ℕ)
  pub read : Drains steps it (event_items events)
  pub stands : StandsFor t (taken_from_the_start (map ranged_view events))
