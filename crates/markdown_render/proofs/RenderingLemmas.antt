-- What a parser gives, up to its first None, is all that was left of it, for the answers that its callback gave.
use Rattle.std.proofs.Common.{◌≡◌, ℕ, Bool, false, List, [], ◌∷◌, ◌++◌, map, Err, Option, Some, None, Result, ◌⊎◌, inl}
use Rattle.std.proofs.Common.{inr, ap, refl, subst, sym, ◌∙◌, append_assoc, append-nil}
use Rattle.std.proofs.lemmas.List.{map-append}
use Rattle.std.specs.Iterator.{Drains, Yields}
use Rattle.std.specs.Prelude.{is_some}
use Rattle.markdown_base.specs.Event.{EventView, event_view}
use Rattle.markdown_base.specs.Questions.{Question, Answer, Answers}
use Rattle.markdown_base.specs.declared.event.Event.{Event}
use Rattle.markdown_base.specs.declared.fault.Fault.{Fault}
use Rattle.markdown_base.specs.declared.fault.Fault.TheVariants.{Memory, Blocks, Depth}
use Rattle.markdown_base.specs.Source.{Source}
use Rattle.markdown_defs.specs.Callback.{Asks}
use Rattle.markdown_inline.specs.Elements.{Placed, events_of, questions_of}
use Rattle.markdown_inline.specs.NextGives.{NextGives, IsEventOf}
use Rattle.markdown_inline.specs.ParserLeft.{ReadsText, elements, parser_text, parser_callback}
use Rattle.markdown_inline.specs.ReadingOfText.{events_of_text, reading_of_text}
use Rattle.markdown_inline.specs.Runs.{AreOf}
use Rattle.markdown_inline.specs.declared.walk.Parser.{Parser}
use Rattle.markdown_inline.proofs.RunLemmas.{GaveFirst, gave_none, gave_more, gave_rest}
use Rattle.markdown_out.specs.EventHtml.{html_of}
use Rattle.markdown_out.specs.HtmlCorrect.{GoesTooDeep, IsRendered, StopsAtError, IsOwnFault, items}
use Rattle.markdown_out.specs.LookBacks.{IsTooDeep}
use Rattle.markdown_render.specs.ParserHtml.{IsHtmlOfAll, IsHtmlOfFirst}
use Rattle.markdown_render.specs.HtmlOfText.{IsTextTooDeep, html_of_text, views_of}
use Rattle.markdown_render.specs.RenderingFor.{AreEventsFor, AreFirstEventsFor, IsHtmlFor, IsTooDeepFor}
use Rattle.markdown_render.specs.declared.run.Failure.TheVariants as failure

-- events of a reading are compared by what is seen of them
views : (source : List ℕ) (given : List Event) (events : List Placed) → AreOf IsEventOf source given events
    → map (λ e. e.0) events ≡ map event_view given
views source [] [] a = refl
views source [] (placed ∷ events) a = absurd a
views source (e ∷ given) [] a = absurd a
views source (e ∷ given) (placed ∷ events) a = rw (a.0.view, views source given events a.1) refl

module _ {F : Type 0} (step : F → Question → Option Answer → F → Type 0) where
  -- calls of `next`, and the first events that they gave
  abbrev Steps : Parser F → Option (Result Event Fault) → Parser F → Type 0
  Steps = NextGives step IsEventOf

  abbrev GaveEvents : Parser F → Parser F → List Event → Type 0
  GaveEvents p q given = GaveFirst step IsEventOf (λ (r : Parser F). r) p q given

  begins : (p : Parser F) → GaveEvents p p []
  begins p = gave_none step IsEventOf (λ (r : Parser F). r) p

  -- after some events come others
  then_more : (p q t : Parser F) (given more : List Event) → GaveEvents p q given → Yields Steps q (items more) t
      → GaveEvents p t (given ++ more)
  then_more p q t given [] g y =
      subst (GaveEvents p t) (sym (append-nil given)) (subst (λ (r : Parser F). GaveEvents p r given) y g)
  then_more p q t given (e ∷ more) g (j, h, y) =
      subst (GaveEvents p t) (append_assoc given (e ∷ []) more)
      (then_more p j t (given ++ e ∷ []) more (gave_more step IsEventOf (λ (r : Parser F). r) p q j given e g h) y)

  -- and at last an error item
  until_error : (p q left : Parser F) (given more : List Event) (fault : Fault) → GaveEvents p q given
      → Yields Steps q (items more ++ Err fault ∷ []) left → (t : Parser F) × GaveEvents p t (given ++ more)
  until_error p q left given [] fault g y = (q, subst (GaveEvents p q) (sym (append-nil given)) g)
  until_error p q left given (e ∷ more) fault g (j, h, y) =
      let r = until_error p j left (given ++ e ∷ []) more fault
      (gave_more step IsEventOf (λ (r : Parser F). r) p q j given e g h) y
      in (r.0, subst (GaveEvents p r.0) (append_assoc given (e ∷ []) more) r.1)

  -- the events of a run up to None are those that were left
  pub drained : (p : Parser F) (given : List Event) → Drains Steps p (items given)
      → AreEventsFor step (parser_callback p) (elements p) (map event_view given)
  drained p given (u, (t, y, z)) =
      let r = gave_rest step IsEventOf (λ (r : Parser F). r) p t u given (then_more p p t [] given (begins p) y) z in
      record {
        answers = r.answers;
        after = parser_callback u;
        asked = r.asked;
        are = λ later. ap (map (λ e. e.0)) (r.left later) ∙ views (parser_text p) given r.events r.are;
      }

  -- and those of any run are the first of them
  first_of : (p t : Parser F) (given : List Event) → GaveEvents p t given
      → AreFirstEventsFor step (parser_callback p) (elements p) (map event_view given)
  first_of p t given g = record {
    questions = g.questions;
    answers = g.answers;
    after = parser_callback t;
    asked = g.asked;
    first_asked = λ later. (questions_of (elements t later), g.asks later);
    are_first = λ later. (
      views_of (elements t later),
      ap (map (λ (e : Placed). e.0)) (g.left later)
          ∙ (map-append (λ (e : Placed). e.0) g.events (events_of (elements t later))
          ∙ ap (λ vs. vs ++ views_of (elements t later)) (views (parser_text p) given g.events g.are)),
    );
  }

  pub first_drained : (p left : Parser F) (given : List Event) → Yields Steps p (items given) left
      → AreFirstEventsFor step (parser_callback p) (elements p) (map event_view given)
  first_drained p left given y = first_of p left given (then_more p p left [] given (begins p) y)

  -- an error item is one of memory
  pub memory_alone : (p left : Parser F) (given : List Event) (fault : Fault)
      → Yields Steps p (items given ++ Err fault ∷ []) left → fault ≡ Memory
  memory_alone p left [] fault (j, h, y) = h.gives.memory
  memory_alone p left (e ∷ given) fault (j, h, y) = memory_alone j left given fault y

  -- so the HTML written is that of the events that were left
  pub of_all : (p : Parser F) (old new : List ℕ) → IsRendered Steps p old new → IsHtmlOfAll step p old new
  of_all p old new r = record { events = map event_view r.events; left = drained p r.events r.read; stands = r.stands }

  -- at an error, and where too many Starts are open, that of the first of them
  pub of_first : (p : Parser F) (old new : List ℕ) (fault : Fault) → StopsAtError Steps p old new fault
      → (fault ≡ Memory) × (events : List EventView) × IsHtmlOfFirst step p old new events
  of_first p old new fault s =
      let r = until_error p p s.left [] s.events fault (begins p) s.read in (
        memory_alone p s.left s.events fault s.read,
        map event_view s.events,
        record { left = first_of p r.0 s.events r.1; stands = s.stands },
      )

  pub of_deep : (p : Parser F) (old new : List ℕ) → GoesTooDeep Steps p old new
      → (events : List EventView) × IsHtmlOfFirst step p old new events × IsTooDeep events
  of_deep p old new d =
      (map event_view d.events, record { left = first_drained p d.left d.events d.read; stands = d.stands }, d.deep)

  -- without a callback there are no answers
  unasked : (questions : List Question) (answers : Answers) (after : Option F) → Asks step None questions answers after
      → answers ≡ []
  unasked [] [] after a = refl
  unasked [] (x ∷ answers) after a = absurd a
  unasked (q ∷ questions) [] after a = absurd a
  unasked (q ∷ questions) (x ∷ answers) after a = absurd a

  -- so the events that are read of a text are those that are defined of it
  pub events_alone : (callback : Option F) (s : Source) (events : List EventView)
      → AreEventsFor step callback (reading_of_text s (is_some callback)) events → callback ≡ None
      → events ≡ map (λ e. e.0) (events_of_text s)
  events_alone None s events r none =
      let nobody = unasked _ r.answers r.after r.asked in sym (rw nobody at (r.are []))
  events_alone (Some f) s events r none = absurd (cc none)

  -- a new parser's events are those of the reading that is defined of its text
  pub read_by_rules : (s : Source) (p : Parser F) → ReadsText s p → (events : List EventView)
      → AreEventsFor step (parser_callback p) (elements p) events
      → AreEventsFor step (parser_callback p) (reading_of_text s (is_some (parser_callback p))) events
  read_by_rules s p of events d = record {
    answers = d.answers;
    after = d.after;
    asked = rw (← of.left d.answers) d.asked;
    are = λ later. rw (← of.left (d.answers ++ later)) (d.are later);
  }

  -- and so are its first events
  pub first_by_rules : (s : Source) (p : Parser F) → ReadsText s p → (events : List EventView)
      → AreFirstEventsFor step (parser_callback p) (elements p) events
      → AreFirstEventsFor step (parser_callback p) (reading_of_text s (is_some (parser_callback p))) events
  first_by_rules s p of events f = record {
    questions = f.questions;
    answers = f.answers;
    after = f.after;
    asked = f.asked;
    first_asked = λ later. let a = f.first_asked later in
        (a.0, ap questions_of (sym (of.left (f.answers ++ later))) ∙ a.1);
    are_first = λ later. let a = f.are_first later in
        (a.0, ap views_of (sym (of.left (f.answers ++ later))) ∙ a.1);
  }

  -- without a callback they are the first of those that are defined of the text
  pub first_alone : (s : Source) (events : List EventView)
      → AreFirstEventsFor step None (reading_of_text s false) events
      → (missing : List EventView) × (map (λ e. e.0) (events_of_text s) ≡ events ++ missing)
  first_alone s events f =
      let none = unasked f.questions f.answers f.after f.asked in
      let a = f.are_first [] in
      (a.0, ap (λ (given : Answers). views_of (reading_of_text s false (given ++ []))) (sym none) ∙ a.1)

  -- and where all of a text's reading was left, its HTML is that of the text
  pub of_text : (s : Source) (p : Parser F) (old new : List ℕ) → ReadsText s p → IsRendered Steps p old new
      → (html : List ℕ) × (new ≡ old ++ html) × IsHtmlFor step (parser_callback p) s html
  of_text s p old new of r = (
    html_of (map event_view r.events),
    r.stands,
    record {
      events = map event_view r.events;
      read = read_by_rules s p of (map event_view r.events) (drained p r.events r.read);
      is = refl;
    },
  )

  -- which is all of the string where that was empty before, for the callback that the parser was given
  pub rendering : (s : Source) (old new : List ℕ) (callback : Option F) (p : Parser F)
      → old ≡ [] → parser_callback p ≡ callback
      → (html : List ℕ) × (new ≡ old ++ html) × IsHtmlFor step (parser_callback p) s html
      → IsHtmlFor step callback s new
  rendering s old new callback p empty holds (html, stands, is) =
      let alone : new ≡ html = stands ∙ ap (λ bytes. bytes ++ html) empty in
      subst (λ (c : Option F). IsHtmlFor step c s new) holds
      (subst (IsHtmlFor step (parser_callback p) s) (sym alone) is)

  -- rendering fails by memory, or where among the first events too many Starts are open
  own_faults : (s : Source) (old new : List ℕ) (p : Parser F) (fault : Fault) → ReadsText s p
      → IsOwnFault Steps p old new fault
      → (fault ≡ Memory) ⊎ ((fault ≡ Depth) × IsTooDeepFor step (parser_callback p) s)
  own_faults s old new p Memory of own = inl refl
  own_faults s old new p Depth of own =
      let d = of_deep p old new own in
      inr (refl, record { events = d.0; read = first_by_rules s p of d.0 d.1.left; deep = d.2 })
  own_faults s old new p Blocks of own = absurd own

  pub faults : (s : Source) (old new : List ℕ) (callback : Option F) (p : Parser F) (fault : Fault) → ReadsText s p
      → parser_callback p ≡ callback
      → StopsAtError Steps p old new fault ⊎ IsOwnFault Steps p old new fault
      → (fault ≡ Memory) ⊎ ((fault ≡ Depth) × IsTooDeepFor step callback s)
  faults s old new callback p fault of holds (inl stopped) =
      inl (memory_alone p stopped.left stopped.events fault stopped.read)
  faults s old new callback p fault of holds (inr own) =
      subst (λ (c : Option F). (fault ≡ Memory) ⊎ ((fault ≡ Depth) × IsTooDeepFor step c s)) holds
      (own_faults s old new p fault of own)

  -- without a callback the HTML is that which is defined of the text
  pub html_alone : (callback : Option F) (s : Source) (html : List ℕ) → IsHtmlFor step callback s html
      → callback ≡ None → html ≡ html_of_text s
  html_alone callback s html r none = r.is ∙ ap html_of (events_alone callback s r.events r.read none)

  -- and rendering fails by memory, or where the text is too deep
  pub faults_alone : (callback : Option F) (s : Source) (fault : Fault)
      → (fault ≡ Memory) ⊎ ((fault ≡ Depth) × IsTooDeepFor step callback s) → callback ≡ None
      → (fault ≡ Memory) ⊎ ((fault ≡ Depth) × IsTextTooDeep s)
  faults_alone callback s fault (inl e) none = inl e
  faults_alone None s fault (inr (e, d)) none =
      let first = first_alone s d.events d.read in
      inr (e, record { given = d.events; missing = first.0; whole = first.1; deep = d.deep })
  faults_alone (Some f) s fault (inr d) none = absurd (cc none)

-- a fault of rendering is one of the program
pub failed : (s : Source) (fault : Fault) → (fault ≡ Memory) ⊎ ((fault ≡ Depth) × IsTextTooDeep s)
    → (failure.Fault fault ≡ failure.Fault Memory) ⊎ ((failure.Fault fault ≡ failure.Fault Depth) × IsTextTooDeep s)
failed s fault (inl e) = inl (ap failure.Fault e)
failed s fault (inr (e, deep)) = inr (ap failure.Fault e, deep)
