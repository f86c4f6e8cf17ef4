-- What the loop over the events keeps, and what follows from it where the loop is left.
use Rattle.std.proofs.Common.{◌≡◌, ◌++◌, List, ℕ, [], ◌∷◌, Result, Ok, Err, Option, Some, None, map}
use Rattle.std.proofs.Common.{refl, sym, ap, subst, ◌∙◌, append-nil}
use Rattle.std.proofs.lemmas.List.{map-append, flat_map_more}
use Rattle.std.proofs.iter.Next.{Yields-more}
use Rattle.std.specs.Iterator.{Yields}
use Rattle.std.specs.declared.ops.Range.{Range}
use Rattle.markdown_base.specs.declared.event.Event.{Event}
use Rattle.markdown_base.specs.declared.fault.Fault.{Fault}
use Rattle.markdown_lint_json.specs.PlacedEvents.{IsCutShortWithPlaces, IsWrittenWithPlaces, StopsWithPlaces}
use Rattle.markdown_lint_json.specs.PlacedEvents.{placed_event_line, placed_event_lines}
use Rattle.markdown_out.specs.ByteLists.{AppendsPrefix}
use Rattle.markdown_outline.specs.Outline.{Ranged}
use Rattle.markdown_outline.specs.OutlineRead.{event_items, ranged_view}

abbrev Placed : Type 0
Placed = Event × Range ℕ

abbrev Item : Type 0
Item = Result Placed Fault

-- these events were read and their lines appended
pub record WrotePlaces (text old new : List ℕ) (yielded : List (Result (Event × Range ℕ) Fault)) : Type 0 where
  pub events : List (Event × Range ℕ)
  pub read : yielded ≡ event_items events
  pub stands : new ≡ old ++ placed_event_lines text (map ranged_view events)

-- no event was read yet
pub wrote_none : (text old : List ℕ) → WrotePlaces text old old []
wrote_none text old = record { events = []; read = refl; stands = sym (append-nil old) }

items_more : (events : List Placed) (e : Placed) (yielded : List Item) (item : Item) → yielded ≡ event_items events
    → item ≡ Ok e → yielded ++ item ∷ [] ≡ event_items (events ++ e ∷ [])
items_more events e yielded item y i =
    ap (λ ys. ys ++ item ∷ []) y
    ∙ (ap (λ x. event_items events ++ x ∷ []) i ∙ sym (map-append (λ (e : Placed). Ok e) events (e ∷ [])))

lines_more : (text old : List ℕ) (events : List Placed) (e : Placed)
    → (old ++ placed_event_lines text (map ranged_view events)) ++ placed_event_line text (ranged_view e)
    ≡ old ++ placed_event_lines text (map ranged_view (events ++ e ∷ []))
lines_more text old events e =
    flat_map_more (placed_event_line text) old (map ranged_view events) (ranged_view e)
    ∙ ap (λ (es : List Ranged). old ++ placed_event_lines text es) (sym (map-append ranged_view events (e ∷ [])))

-- one more line was written
pub wrote_more : (text old new new' : List ℕ) (yielded : List (Result (Event × Range ℕ) Fault))
    (item : Result (Event × Range ℕ) Fault) (e : Event × Range ℕ)
    → WrotePlaces text old new yielded → item ≡ Ok e → new' ≡ new ++ placed_event_line text (ranged_view e)
    → WrotePlaces text old new' (yielded ++ item ∷ [])
wrote_more text old new new' yielded item e w i n = record {
  events = w.events ++ e ∷ [];
  read = items_more w.events e yielded item w.read i;
  stands = n ∙ (ap (λ x. x ++ placed_event_line text (ranged_view e)) w.stands ∙ lines_more text old w.events e);
}

module _ {S : Type 0} (steps : S → Option (Result (Event × Range ℕ) Fault) → S → Type 0) (text : List ℕ) where
  -- an item was an error
  pub stops_placed : (it t u : S) (old new : List ℕ) (yielded : List (Result (Event × Range ℕ) Fault))
      (item : Result (Event × Range ℕ) Fault) (fault : Fault)
      → Yields steps it yielded t → steps t (Some item) u → item ≡ Err fault → WrotePlaces text old new yielded
      → StopsWithPlaces steps text it old new fault
  stops_placed it t u old new yielded item fault y p i w = record {
    events = w.events;
    left = u;
    read = subst (λ ys. Yields steps it ys u)
        (ap (λ ys. ys ++ item ∷ []) w.read ∙ ap (λ x. event_items w.events ++ x ∷ []) i)
        (Yields-more steps it yielded t item u y p);
    stands = w.stands;
  }

  -- memory was refused at an event
  pub cut_placed : (it t u : S) (old new out : List ℕ) (yielded : List (Result (Event × Range ℕ) Fault))
      (item : Result (Event × Range ℕ) Fault) (e : Event × Range ℕ)
      → Yields steps it yielded t → steps t (Some item) u → item ≡ Ok e → WrotePlaces text old new yielded
      → AppendsPrefix new out (placed_event_line text (ranged_view e)) → IsCutShortWithPlaces steps text it old out
  cut_placed it t u old new out yielded item e y p i w f = record {
    events = w.events;
    last = e;
    left = u;
    read = subst (λ ys. Yields steps it ys u) (items_more w.events e yielded item w.read i)
        (Yields-more steps it yielded t item u y p);
    stands = subst (λ n. AppendsPrefix n out (placed_event_line text (ranged_view e))) w.stands f;
  }

  -- all events were written
  pub all_placed : (it t u : S) (old new : List ℕ) (yielded : List (Result (Event × Range ℕ) Fault))
      → Yields steps it yielded t
      → steps t None u → WrotePlaces text old new yielded → IsWrittenWithPlaces steps text it old new
  all_placed it t u old new yielded y p w = record {
    events = w.events;
    read = (u, (t, subst (λ ys. Yields steps it ys t) w.read y, p));
    stands = w.stands;
  }
