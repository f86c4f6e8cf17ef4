-- What the loop over the events keeps, and what follows from it where the loop is left.
use Rattle.std.proofs.Common.{◌≡◌, ◌++◌, List, ℕ, [], ◌∷◌, Result, Ok, Err, Option, Some, None}
use Rattle.std.proofs.Common.{refl, sym, ap, subst, ◌∙◌, append-nil}
use Rattle.std.proofs.lemmas.List.{map-append, flat_map_more}
use Rattle.std.proofs.iter.Next.{Yields-more}
use Rattle.std.specs.Iterator.{Yields}
use Rattle.markdown_base.specs.declared.fault.Fault.{Fault}
use Rattle.markdown_out.specs.ByteLists.{AppendsPrefix}
use Rattle.markdown_json.specs.JsonLines.{PlacedEvent, placed_items, json_line, lines_of, IsWritten, StopsAtError}
use Rattle.markdown_json.specs.JsonLines.{IsCutShort}

-- these events were read and their lines appended
pub record Wrote (old new : List ℕ) (yielded : List (Result PlacedEvent Fault)) : Type 0 where
  pub events : List PlacedEvent
  pub read : yielded ≡ placed_items events
  pub stands : new ≡ old ++ lines_of events

-- no event was read yet
pub Wrote-none : (old : List ℕ) → Wrote old old []
Wrote-none old = record { events = []; read = refl; stands = sym (append-nil old) }

items-more : (events : List PlacedEvent) (e : PlacedEvent) (yielded : List (Result PlacedEvent Fault))
    (item : Result PlacedEvent Fault)
    → yielded ≡ placed_items events → item ≡ Ok e → yielded ++ item ∷ [] ≡ placed_items (events ++ e ∷ [])
items-more events e yielded item y i =
    ap (λ ys. ys ++ item ∷ []) y
    ∙ (ap (λ x. placed_items events ++ x ∷ []) i ∙ sym (map-append (λ (e : PlacedEvent). Ok e) events (e ∷ [])))

-- one more line was written
pub Wrote-more : (old new new' : List ℕ) (yielded : List (Result PlacedEvent Fault)) (item : Result PlacedEvent Fault)
    (e : PlacedEvent)
    → Wrote old new yielded → item ≡ Ok e → new' ≡ new ++ json_line e → Wrote old new' (yielded ++ item ∷ [])
Wrote-more old new new' yielded item e w i n = record {
  events = w.events ++ e ∷ [];
  read = items-more w.events e yielded item w.read i;
  stands = n ∙ (ap (λ x. x ++ json_line e) w.stands ∙ flat_map_more json_line old w.events e);
}

module _ {S : Type 0} (steps : S → Option (Result PlacedEvent Fault) → S → Type 0) where
  -- an item was an error
  pub stops : (it t u : S) (old new : List ℕ) (yielded : List (Result PlacedEvent Fault))
      (item : Result PlacedEvent Fault) (fault : Fault)
      → Yields steps it yielded t → steps t (Some item) u → item ≡ Err fault → Wrote old new yielded
      → StopsAtError steps it old new fault
  stops it t u old new yielded item fault y p i w = record {
    events = w.events;
    left = u;
    read = subst (λ ys. Yields steps it ys u)
        (ap (λ ys. ys ++ item ∷ []) w.read ∙ ap (λ x. placed_items w.events ++ x ∷ []) i)
        (Yields-more steps it yielded t item u y p);
    stands = w.stands;
  }

  -- memory was refused at an event
  pub cut_short : (it t u : S) (old new out : List ℕ) (yielded : List (Result PlacedEvent Fault))
      (item : Result PlacedEvent Fault) (e : PlacedEvent)
      → Yields steps it yielded t → steps t (Some item) u → item ≡ Ok e → Wrote old new yielded
      → AppendsPrefix new out (json_line e) → IsCutShort steps it old out
  cut_short it t u old new out yielded item e y p i w f = record {
    events = w.events;
    last = e;
    left = u;
    read = subst (λ ys. Yields steps it ys u) (items-more w.events e yielded item w.read i)
        (Yields-more steps it yielded t item u y p);
    stands = subst (λ n. AppendsPrefix n out (json_line e)) w.stands f;
  }

  -- all events were written
  pub all_written : (it t u : S) (old new : List ℕ) (yielded : List (Result PlacedEvent Fault))
      → Yields steps it yielded t
      → steps t None u → Wrote old new yielded → IsWritten steps it old new
  all_written it t u old new yielded y p w = record {
    events = w.events;
    read = (u, (t, subst (λ ys. Yields steps it ys t) w.read y, p));
    stands = w.stands;
  }
