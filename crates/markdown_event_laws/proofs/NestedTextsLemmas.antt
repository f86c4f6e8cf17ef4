-- The events of a text are nested, since they are balanced.
use Rattle.std.proofs.Common.{◌≡◌, ℕ, false, List, [], ◌∷◌, refl, ap, map, subst}
use Rattle.std.specs.declared.ops.Range.{Range}
use Rattle.markdown_base.specs.Event.{EventView, start, end}
use Rattle.markdown_base.specs.declared.tag.TagEnd.{TagEnd}
use Rattle.markdown_event_laws.specs.EventsOfTexts.{ReadingsAreNested, TextsAreNested}
use Rattle.markdown_event_laws.specs.NestedEvents.{AreNested, IsAwaited, NestFrom, awaited_after}
use Rattle.markdown_inline.proofs.BalancedLemmas.{balanced-law}
use Rattle.markdown_inline.proofs.ReadingOfTextLemmas.{text-law}
use Rattle.markdown_inline.specs.Balanced.{AreBalancedFrom, Awaited, EndsInTurn, Ranged, ranged}
use Rattle.markdown_inline.specs.Elements.{Element, Placed, events_of}
use Rattle.markdown_inline.specs.ParserLeft.{reading_of}

-- the Ends, and the events, without ranges
abbrev ends_of : List Awaited → List TagEnd
ends_of awaited = map (λ (a : Awaited). a.0) awaited

abbrev bare : List Ranged → List EventView
bare events = map (λ (e : Ranged). e.0) events

nested_event : (e : EventView) (range : Range ℕ) (awaited : List Awaited) (rest : List Awaited → Type 0)
    (nest : List TagEnd → Type 0) → ((a : List Awaited) → rest a → nest (ends_of a)) → EndsInTurn e range awaited rest
    → IsAwaited e (ends_of awaited) × nest (awaited_after e (ends_of awaited))
nested_event (start tag) range awaited rest nest goes_on h = (tt, goes_on _ h)
nested_event (end x) range [] rest nest goes_on h = absurd h
nested_event (end x) range (a ∷ awaited) rest nest goes_on h = (h.0, goes_on awaited h.2)
nested_event other range awaited rest nest goes_on h = (tt, goes_on awaited h)

nested : (events : List Ranged) (awaited : List Awaited) → AreBalancedFrom awaited events
    → NestFrom (ends_of awaited) (bare events)
nested [] awaited h = ap ends_of h
nested (e ∷ events) awaited h = nested_event e.0 e.1 awaited (λ a. AreBalancedFrom a events)
    (λ a. NestFrom a (bare events)) (λ a k. nested events a k) h

bare_ranged : (placed : List Placed) → bare (ranged placed) ≡ map (λ (e : Placed). e.0) placed
bare_ranged [] = refl
bare_ranged (e ∷ placed) = ap (λ (l : List EventView). e.0 ∷ l) (bare_ranged placed)

pub nested_readings : ReadingsAreNested
nested_readings blocks asks answers =
    let events : List Placed = events_of (reading_of blocks asks answers) in
    subst AreNested (bare_ranged events) (nested (ranged events) [] (balanced-law blocks asks answers))

pub nested_texts : TextsAreNested
nested_texts s blocks of =
    subst (λ (read : List Element). AreNested (map (λ (e : Placed). e.0) (events_of read)))
    (text-law s blocks of false []) (nested_readings blocks false [])
