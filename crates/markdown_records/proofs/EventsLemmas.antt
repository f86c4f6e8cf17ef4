-- Events among entries, and what an iterator over them returns.
use Rattle.std.proofs.Common.{◌≡◌, false, true, is_some, List, [], ◌∷◌, ◌++◌, map, refl, sym, ap, ◌∙◌, Option, None}
use Rattle.std.proofs.Common.{Some, Ok, Err}
use Rattle.std.proofs.lemmas.List.{append-nil}
use Rattle.std.specs.Iterator.{Yields}
use Rattle.std.specs.Option.{option_map}
use Rattle.std.proofs.lemmas.Bool.{false≢true}
use Rattle.markdown_base.specs.Event.{EventView, event_view}
use Rattle.markdown_base.specs.declared.event.Event.{Event}
use Rattle.markdown_base.specs.declared.fault.Fault.{Fault}
use Rattle.markdown_base.specs.declared.fault.Fault.TheVariants.{Memory}
use Rattle.markdown_records.specs.RecordEntry.{RecordEntry}
use Rattle.markdown_records.specs.RecordEventsLaws.{ReturnsEventsLeft}
use Rattle.markdown_records.specs.RecordsLeft.{event_steps, events_left}
use Rattle.markdown_records.specs.SaidBy.{event_of, events_among, list_or_none}
use Rattle.markdown_records.specs.declared.record_events.RecordEvents.{RecordEvents}

-- after an entry that could be read the others can be read
pub reads_on : (all others : Option (List RecordEntry)) (v : RecordEntry) → all ≡ option_map (λ vs. v ∷ vs) others
    → is_some all ≡ true → is_some others ≡ true
reads_on all None v is there = sym (ap (λ (o : Option (List RecordEntry)). is_some o) is) ∙ there
reads_on all (Some vs) v is there = refl

-- an entry that is an event is the first of the events
pub event_first : (all others : Option (List RecordEntry)) (v : RecordEntry) (e : EventView)
    → all ≡ option_map (λ vs. v ∷ vs) others → is_some others ≡ true → event_of v ≡ Some e
    → events_among (list_or_none all) ≡ e ∷ events_among (list_or_none others)
event_first all None v e is there found = absurd (false≢true there)
event_first all (Some vs) v e is there found = rw (is, found) refl

-- another entry is none of them
pub event_skipped : (all others : Option (List RecordEntry)) (v : RecordEntry)
    → all ≡ option_map (λ vs. v ∷ vs) others → event_of v ≡ None
    → events_among (list_or_none all) ≡ events_among (list_or_none others)
event_skipped all None v is found = rw is refl
event_skipped all (Some vs) v is found = rw (is, found) refl

first_events : (m : RecordEvents) (given : List Event) (t : RecordEvents)
    → Yields event_steps m (map (λ e. Ok e) given) t → events_left m ≡ map event_view given ++ events_left t
first_events m [] t y = ap (λ (r : RecordEvents). events_left r) y
first_events m (e ∷ given) t y =
    y.1 ∙ ap (λ (es : List EventView). event_view e ∷ es) (first_events y.0 given t y.2)

until_error : (m : RecordEvents) (given : List Event) (t : RecordEvents) (fault : Fault)
    → Yields event_steps m (map (λ e. Ok e) given ++ Err fault ∷ []) t → (fault ≡ Memory) × (events_left t ≡ [])
until_error m [] t fault y = (y.1.0, sym (ap (λ (r : RecordEvents). events_left r) y.2) ∙ y.1.1)
until_error m (e ∷ given) t fault y = until_error y.0 given t fault y.2

pub returns_left : (m : RecordEvents) → ReturnsEventsLeft m
returns_left m = record {
  all = λ given d. sym (first_events m given d.1.0 d.1.1
      ∙ ap (λ (es : List EventView). map event_view given ++ es) d.1.2.0 ∙ append-nil (map event_view given));
  first = λ given t y. first_events m given t y;
  error = λ given t fault y. until_error m given t fault y;
}
