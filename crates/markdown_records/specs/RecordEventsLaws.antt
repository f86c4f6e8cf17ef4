-- What a `RecordEvents` returns in a whole run, and in the first part of one.
use Rattle.std.specs.Prelude.{◌≡◌, List, [], ◌∷◌, ◌++◌, map, Ok, Err}
use Rattle.std.specs.Iterator.{Drains, Yields}
use Rattle.markdown_base.specs.Event.{event_view}
use Rattle.markdown_base.specs.declared.event.Event.{Event}
use Rattle.markdown_base.specs.declared.fault.Fault.{Fault}
use Rattle.markdown_base.specs.declared.fault.Fault.TheVariants.{Memory}
use Rattle.markdown_records.specs.RecordsLeft.{event_steps, events_left}
use Rattle.markdown_records.specs.declared.record_events.RecordEvents.{RecordEvents}

-- what is returned of the events that are left: up to None all of them, at any time the first of them, and before an
-- error, which is that memory was refused, the first of them too
pub record ReturnsEventsLeft (m : RecordEvents) : Type 0 where
  pub all : (given : List Event) → Drains event_steps m (map (λ e. Ok e) given) → map event_view given ≡ events_left m
  pub first : (given : List Event) (t : RecordEvents) → Yields event_steps m (map (λ e. Ok e) given) t
      → events_left m ≡ map event_view given ++ events_left t
  pub error : (given : List Event) (t : RecordEvents) (fault : Fault)
      → Yields event_steps m (map (λ e. Ok e) given ++ Err fault ∷ []) t → (fault ≡ Memory) × (events_left t ≡ [])
