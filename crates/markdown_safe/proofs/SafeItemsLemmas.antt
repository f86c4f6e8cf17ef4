-- What an iterator returned whose items are made safe, and what is written of it.
use Rattle.std.proofs.Common.{◌≡◌, ◌⊎◌, ℕ, List, [], ◌∷◌, ◌++◌, map, Ok, Err, Option, Some, Result, ap, inl, inr}
use Rattle.std.proofs.Common.{refl, ◌∙◌, append_assoc}
use Rattle.std.proofs.lemmas.List.{map-append}
use Rattle.std.specs.Iterator.{Drains, Yields}
use Rattle.markdown_base.specs.Event.{EventView, event_view}
use Rattle.markdown_base.specs.declared.event.Event.{Event}
use Rattle.markdown_base.specs.declared.fault.Fault.{Fault}
use Rattle.markdown_base.specs.declared.fault.Fault.TheVariants.{Memory, Blocks, Depth}
use Rattle.markdown_out.specs.EventHtml.{html_by, open_html_by}
use Rattle.markdown_out.specs.HtmlCorrect.{GoesTooDeepBy, IsCutAtEndBy, IsCutShortBy, IsOwnFaultBy, IsRenderedBy}
use Rattle.markdown_out.specs.HtmlCorrect.{StopsAtErrorBy, items}
use Rattle.markdown_out.specs.declared.html.rules.HtmlRules.{HtmlRules}
use Rattle.markdown_safe.specs.SafeEvents.{SafePast, safe_from, safe_next}
use Rattle.markdown_safe.specs.SafeHtml.{IsSafeHtml, IsStartOfSafeHtml}
use Rattle.markdown_safe.specs.SafeItems.{GivesSafe, IsSafeItem, SafeReading}
use Rattle.markdown_safe.specs.SafeRules.{SafeRulesView}
use Rattle.markdown_safe.proofs.SafeEventsByRulesLemmas.{html_from_is_safe}
use Rattle.markdown_safe.proofs.SafeEventsLemmas.{cut_at_end_is_safe, cut_is_safe, open_is_safe}

-- an iterator of events
abbrev pub Item : Type 0
Item = Result Event Fault

-- these events, made safe after others
abbrev pub are_safe : SafeRulesView → SafePast → List Event → List EventView
are_safe rules past read = safe_from rules past (map event_view read)

module _ {S M : Type 0} (reads : S → Option Item → S → Type 0) (reading : M → SafeReading S) where
  abbrev pub Steps : M → Option Item → M → Type 0
  Steps m r n = GivesSafe reads (reading m) r (reading n)

  -- these events are all that the source returns, made safe
  abbrev pub AreAllSafe : SafeReading S → List Event → Type 0
  AreAllSafe a given = (read : List Event) × Drains reads a.source (items read)
      × (map event_view given ≡ are_safe a.rules a.past read)

  -- and these the first that it returns
  abbrev pub AreFirstSafe : SafeReading S → S → List Event → Type 0
  AreFirstSafe a t given = (read : List Event) × Yields reads a.source (items read) t
      × (map event_view given ≡ are_safe a.rules a.past read)

  all_before : (a b : SafeReading S) (x : Item) (e : Event) (given : List Event) → reads a.source (Some x) b.source
      → IsSafeItem a.rules a.past x (Ok e) b.past → b.rules ≡ a.rules → AreAllSafe b given → AreAllSafe a (e ∷ given)
  all_before a b (Ok read) e given h made same (others, (u, (v, y, z)), are) = (
    read ∷ others,
    (u, (v, (b.source, h, y), z)),
    rw made.0 (ap (λ l. safe_next a.rules a.past (event_view read) ∷ l)
        (rw (same, made.1) at are)),
  )
  all_before a b (Err fault) e given h made same rest = cc made

  first_before : (a b : SafeReading S) (t : S) (x : Item) (e : Event) (given : List Event)
      → reads a.source (Some x) b.source → IsSafeItem a.rules a.past x (Ok e) b.past → b.rules ≡ a.rules
      → AreFirstSafe b t given → AreFirstSafe a t (e ∷ given)
  first_before a b t (Ok read) e given h made same (others, y, are) = (
    read ∷ others,
    (b.source, h, y),
    rw made.0 (ap (λ l. safe_next a.rules a.past (event_view read) ∷ l)
        (rw (same, made.1) at are)),
  )
  first_before a b t (Err fault) e given h made same rest = cc made

  pub all_safe : (m : M) (given : List Event) → Drains Steps m (items given) → AreAllSafe (reading m) given
  all_safe m [] (u, (t, y, z)) =
      ([], ((reading u).source, ((reading t).source, ap (λ x. (reading x).source) y, z.1)), refl)
  all_safe m (e ∷ given) (u, (t, (j, h, y), z)) =
      all_before (reading m) (reading j) h.1.0 e given h.1.1 h.1.2 h.0 (all_safe j given (u, (t, y, z)))

  pub first_safe : (m t : M) (given : List Event) → Yields Steps m (items given) t
      → AreFirstSafe (reading m) (reading t).source given
  first_safe m t [] y = ([], ap (λ x. (reading x).source) y, refl)
  first_safe m t (e ∷ given) (j, h, y) =
      first_before (reading m) (reading j) (reading t).source h.1.0 e given h.1.1 h.1.2 h.0 (first_safe j t given y)

  -- the events before an error
  until_error : (m left : M) (given : List Event) (fault : Fault) → Yields Steps m (items given ++ Err fault ∷ []) left
      → (t : M) × Yields Steps m (items given) t
  until_error m left [] fault y = (m, refl)
  until_error m left (e ∷ given) fault (j, h, y) =
      let r = until_error j left given fault y in (r.0, (j, h, r.1))

  module _ (form : HtmlRules) (m : M) (old new : List ℕ) where
    -- what follows the old text is safe HTML, or the start of it
    abbrev pub IsFollowed : (List ℕ → Type 0) → Type 0
    IsFollowed is = (html : List ℕ) × (new ≡ old ++ html) × is html

    -- the HTML of events that are made safe is safe
    given_safe : (given : List Event) (read : List Event)
        → map event_view given ≡ are_safe (reading m).rules (reading m).past read
        → IsSafeHtml (html_by form (map event_view given))
    given_safe given read are =
        rw are (html_from_is_safe (reading m).rules form (reading m).past (map event_view read))

    -- what is written of safe events is safe, all of it
    pub whole_is_safe : IsRenderedBy form Steps m old new → IsFollowed IsSafeHtml
    whole_is_safe r =
        let a = all_safe m r.events r.read in
        (html_by form (map event_view r.events), r.stands, given_safe r.events a.0 a.2)

    -- and where writing stops
    error_is_safe : (fault : Fault) → StopsAtErrorBy form Steps m old new fault → IsFollowed IsStartOfSafeHtml
    error_is_safe fault s =
        let u = until_error m s.left s.events fault s.read in
        let a = first_safe m u.0 s.events u.1 in (
          open_html_by form (map event_view s.events),
          s.stands,
          open_is_safe form (map event_view s.events) (given_safe s.events a.0 a.2),
        )

    short_is_safe : IsCutShortBy form Steps m old new → IsFollowed IsStartOfSafeHtml
    short_is_safe s =
        let a = first_safe m s.left (s.events ++ s.last ∷ []) s.read in (
          open_html_by form (map event_view s.events) ++ s.stands.prefix,
          s.stands.stands ∙ append_assoc old (open_html_by form (map event_view s.events)) s.stands.prefix,
          cut_is_safe form (map event_view s.events) (event_view s.last) s.stands.prefix s.stands.missing
              s.stands.whole (rw (← map-append event_view s.events (s.last ∷ []))
              (given_safe (s.events ++ s.last ∷ []) a.0 a.2)),
        )

    end_is_safe : IsCutAtEndBy form Steps m old new → IsFollowed IsStartOfSafeHtml
    end_is_safe s =
        let a = all_safe m s.events s.read in (
          open_html_by form (map event_view s.events) ++ s.stands.prefix,
          s.stands.stands ∙ append_assoc old (open_html_by form (map event_view s.events)) s.stands.prefix,
          cut_at_end_is_safe form (map event_view s.events) s.stands.prefix s.stands.missing s.stands.whole
              (given_safe s.events a.0 a.2),
        )

    deep_is_safe : GoesTooDeepBy form Steps m old new → IsFollowed IsStartOfSafeHtml
    deep_is_safe d =
        let a = first_safe m d.left d.events d.read in (
          open_html_by form (map event_view d.events),
          d.stands,
          open_is_safe form (map event_view d.events) (given_safe d.events a.0 a.2),
        )

    own_is_safe : (fault : Fault) → IsOwnFaultBy form Steps m old new fault → IsFollowed IsStartOfSafeHtml
    own_is_safe Memory (inl s) = short_is_safe s
    own_is_safe Memory (inr s) = end_is_safe s
    own_is_safe Depth d = deep_is_safe d
    own_is_safe Blocks own = absurd own

    pub stopped_is_safe : (fault : Fault)
        → StopsAtErrorBy form Steps m old new fault ⊎ IsOwnFaultBy form Steps m old new fault
        → IsFollowed IsStartOfSafeHtml
    stopped_is_safe fault (inl s) = error_is_safe fault s
    stopped_is_safe fault (inr own) = own_is_safe fault own
