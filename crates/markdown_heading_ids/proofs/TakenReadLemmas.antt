-- What the loop over the events of an iterator keeps, and what follows from it where the loop is left.
use Rattle.std.proofs.Common.{◌≡◌, ℕ, Bool, true, false, ◌||◌, List, [], ◌∷◌, ◌++◌, Ok, Err, Result, Option, Some, None}
use Rattle.std.proofs.Common.{refl, sym, ap, subst, ◌∙◌, map, flat_map, bytes_eq}
use Rattle.std.specs.Iterator.{Yields}
use Rattle.std.specs.declared.ops.Range.{Range}
use Rattle.std.proofs.iter.Next.{Yields-more}
use Rattle.std.proofs.lemmas.Grind.{flat_map-append}
use Rattle.std.proofs.lemmas.List.{map-append}
use Rattle.std.proofs.lemmas.List.Folds.{list_any-append}
use Rattle.markdown_base.specs.Event.{event_view}
use Rattle.markdown_base.specs.declared.event.Event.{Event}
use Rattle.markdown_base.specs.declared.fault.Fault.{Fault}
use Rattle.markdown_heading_ids.specs.HeadingIds.{Id, event_ids, is_taken, taken_from_the_start}
use Rattle.markdown_heading_ids.specs.TakenIds.{StandsFor}
use Rattle.markdown_heading_ids.specs.TakenRead.{IsTakenByAll}
use Rattle.markdown_heading_ids.specs.declared.taken.Taken.{Taken}
use Rattle.markdown_heading_ids.proofs.TakenLemmas.{stands_alike}
use Rattle.markdown_outline.specs.Outline.{Ranged}
use Rattle.markdown_outline.specs.OutlineRead.{MeetsError, event_items, ranged_view}
use Rattle.markdown_outline.proofs.OutlineReadLemmas.{items-more}

abbrev Placed : Type 0
Placed = Event × Range ℕ

-- these events were read, and what they have is taken
pub record TookIds (t : Taken) (yielded : List (Result Placed Fault)) : Type 0 where
  pub events : List Placed
  pub read : yielded ≡ event_items events
  pub stands : StandsFor t (taken_from_the_start (map ranged_view events))

-- before the first event
pub TookIds-none : (t : Taken) (yielded : List (Result Placed Fault)) → StandsFor t ([] ∷ []) → yielded ≡ []
    → TookIds t yielded
TookIds-none t yielded st none = record { events = []; read = none; stands = st }

-- whether an id is among others does not depend on their order
turned : (new empty old : Bool) → (empty || (old || (new || false))) ≡ (new || (empty || old))
turned false false false = refl
turned false false true = refl
turned false true old = refl
turned true false false = refl
turned true false true = refl
turned true true old = refl

taken_turned : (events : List Ranged) (e : Ranged) (id : Id)
    → is_taken (taken_from_the_start (events ++ e ∷ [])) id
    ≡ is_taken (event_ids e.0 ++ taken_from_the_start events) id
taken_turned events e id =
    let test : Id → Bool = λ other. bytes_eq other id in
    let ids : Ranged → List Id = λ (r : Ranged). event_ids r.0 in
    ap (λ l. bytes_eq [] id || is_taken l id) (flat_map-append ids events (e ∷ []))
    ∙ ap (λ b. bytes_eq [] id || b) (list_any-append test (flat_map ids events) (event_ids e.0 ++ []))
    ∙ ap (λ b. bytes_eq [] id || (is_taken (flat_map ids events) id || b)) (list_any-append test (event_ids e.0) [])
    ∙ turned (is_taken (event_ids e.0) id) (bytes_eq [] id) (is_taken (flat_map ids events) id)
    ∙ sym (list_any-append test (event_ids e.0) (taken_from_the_start events))

-- after one more event
pub TookIds-more : {t t' : Taken} {yielded : List (Result Placed Fault)} {item : Result Placed Fault} (e : Placed)
    → TookIds t yielded → item ≡ Ok e
    → ((taken : List Id) → StandsFor t taken → StandsFor t' (event_ids (event_view e.0) ++ taken))
    → TookIds t' (yielded ++ item ∷ [])
TookIds-more {t} {t'} {yielded} {item} e took is next = record {
  events = took.events ++ e ∷ [];
  read = items-more took.events e yielded item took.read is;
  stands = subst (λ (es : List Ranged). StandsFor t' (taken_from_the_start es))
      (sym (map-append ranged_view took.events (e ∷ [])))
      (stands_alike t' (event_ids (event_view e.0) ++ taken_from_the_start (map ranged_view took.events))
      (taken_from_the_start (map ranged_view took.events ++ ranged_view e ∷ []))
      (next (taken_from_the_start (map ranged_view took.events)) took.stands)
      (taken_turned (map ranged_view took.events) (ranged_view e)));
}

module _ {S : Type 0} (steps : S → Option (Result Placed Fault) → S → Type 0) where
  -- an item is an error
  pub MeetsError-from : (it s u : S) {t : Taken} {yielded : List (Result Placed Fault)} {item : Result Placed Fault}
      (fault : Fault) → Yields steps it yielded s → steps s (Some item) u → item ≡ Err fault → TookIds t yielded
      → MeetsError steps it fault
  MeetsError-from it s u {t} {yielded} {item} fault y step is took = record {
    events = took.events;
    left = u;
    read = subst (λ (ys : List (Result Placed Fault)). Yields steps it ys u)
        (ap (λ (ys : List (Result Placed Fault)). ys ++ item ∷ []) took.read
        ∙ ap (λ (x : Result Placed Fault). event_items took.events ++ x ∷ []) is)
        (Yields-more steps it yielded s item u y step);
  }

  -- all events were read
  pub IsTakenByAll-from : (it s u : S) {t : Taken} {yielded : List (Result Placed Fault)}
      → Yields steps it yielded s → steps s None u → TookIds t yielded → IsTakenByAll steps it t
  IsTakenByAll-from it s u {t} {yielded} y step took = record {
    events = took.events;
    read = (u, (s, subst (λ (ys : List (Result Placed Fault)). Yields steps it ys s) took.read y, step));
    stands = took.stands;
  }
