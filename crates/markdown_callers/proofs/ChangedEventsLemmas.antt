-- What is written of a mapped parser: the events of the parser, each changed.
use Rattle.std.proofs.Common.{◌≡◌, ℕ, List, [], ◌∷◌, map, Ok, Err, Option, Some, None, Result, false, ap, refl, subst}
use Rattle.std.proofs.Common.{sym, ◌∙◌}
use Rattle.std.specs.Iterator.{Drains}
use Rattle.std.specs.Prelude.{is_some}
use Rattle.std.proofs.lemmas.Simd.{map-map}
use Rattle.markdown.specs.DefsWords.{Question, Answer}
use Rattle.markdown.specs.EventWords.{Event, EventView, Fault, event_view}
use Rattle.markdown.specs.HtmlWords.{IsRendered, items, html_of, views_of}
use Rattle.markdown.specs.OptionWords.{Source}
use Rattle.markdown.specs.ReadingWords.{IsEventOf, NextGives, Parser, ReadsText, elements, parser_callback}
use Rattle.markdown.specs.ReadingWords.{Placed, events_of_text, reading_of_text}
use Rattle.markdown.proofs.CallerLemmas.{drained_unasked}

-- what an iterator of events returns
abbrev pub Item : Type 0
Item = Result Event Fault

-- an item that becomes an event is one, and the event is its change
abbrev pub Changes : (EventView → EventView) → (Item → Item → Type 0) → Type 0
Changes change Becomes =
    (x : Item) (e : Event) → Becomes x (Ok e)
    → (read : Event) × (x ≡ Ok read) × (event_view e ≡ change (event_view read))

module _ (change : EventView → EventView) {S : Type 0} (reads : S → Option Item → S → Type 0) where
  -- these events are all that an iterator returns, each changed
  abbrev pub AreChanged : S → List Event → Type 0
  AreChanged s given = (read : List Event) × Drains reads s (items read)
      × (map event_view given ≡ map change (map event_view read))

  module _ (Becomes : Item → Item → Type 0) (changes : Changes change Becomes) where
    -- with one more before them
    before : (s t : S) (x : Item) (e : Event) (given : List Event) → reads s (Some x) t → Becomes x (Ok e)
        → AreChanged t given
        → AreChanged s (e ∷ given)
    before s t x e given h made (others, (u, (v, y, z)), are) =
        let c = changes x e made in
        let first : reads s (Some (Ok c.0)) t = subst (λ (it : Item). reads s (Some it) t) c.1 h in
        (c.0 ∷ others, (u, (v, (t, first, y), z)), rw (c.2, are) refl)

    module _ {M : Type 0} (steps : M → Option Item → M → Type 0) (source : M → S) (kept : M → Type 0)
        (ends : (s t : M) → steps s None t → reads (source s) None (source t))
        (maps : (s t : M) (y : Item) → kept s → steps s (Some y) t
        → (x : Item) × reads (source s) (Some x) (source t) × Becomes x y × kept t) where
      -- one by one
      one_by_one : (m : M) (given : List Event) → kept m → Drains steps m (items given)
          → AreChanged (source m) given
      one_by_one m [] k (u, (t, y, z)) = ([], (source u, (source t, ap source y, ends t u z)), refl)
      one_by_one m (e ∷ given) k (u, (t, (j, h, y), z)) =
          let x = maps m j (Ok e) k h in
          before (source m) (source j) x.0 e given x.1 x.2 (one_by_one j given x.3 (u, (t, y, z)))

    -- where an iterator returns what each item of its source becomes, and None at None, while what it holds is kept,
    -- the events written are those of the source, each changed
    pub all_changed : {M : Type 0} {steps : M → Option Item → M → Type 0} {m : M} {old html : List ℕ}
        (r : IsRendered steps m old html)
        (source : M → S) (kept : M → Type 0) → kept m → ((s t : M) → steps s None t → reads (source s) None (source t))
        → ((s t : M) (y : Item) → kept s → steps s (Some y) t
        → (x : Item) × reads (source s) (Some x) (source t) × Becomes x y × kept t) → AreChanged (source m) r.events
    all_changed {steps = steps} {m = m} r source kept k ends maps =
        one_by_one steps source kept ends maps m r.events k r.read

-- so what is written of a new parser without a callback is the HTML of the text's events, each changed
pub written : (change : EventView → EventView) {F M : Type 0} (step : F → Question → Option Answer → F → Type 0)
    {steps : M → Option Item → M → Type 0} {m : M} {s : Source} {old html : List ℕ} {p q : Parser F}
    (r : IsRendered steps m old html) → old ≡ [] → (reads : ReadsText s p) → parser_callback p ≡ None → q ≡ p
    → AreChanged change (NextGives step IsEventOf) q r.events
    → html ≡ html_of (map (λ e. change e.0) (events_of_text s))
written change {F} step {s = s} {p = p} r empty reads nobody same (read, d, are) =
    let from : Drains (NextGives step IsEventOf) p (items read) =
    subst (λ (it : Parser F). Drains (NextGives step IsEventOf) it (items read)) same d in
    let whole : elements p [] ≡ reading_of_text s false [] =
    reads.left [] ∙ ap (λ asks. reading_of_text s asks []) (ap is_some nobody) in
    rw empty at r.stands ∙ ap html_of (are
    ∙ (ap (map change) (sym (drained_unasked step p read from nobody []) ∙ ap views_of whole)
    ∙ map-map change (λ (e : Placed). e.0) (events_of_text s)))
