-- Calls of `next`, one after another up to None, and what was left before them.
use Rattle.std.proofs.Common.{◌≡◌, ℕ, List, [], ◌∷◌, ◌++◌, map, Option, Some, None, Result, Ok, Err, inl, inr, ⊎_elim}
use Rattle.std.proofs.Common.{refl, sym, ap, ◌∙◌, append_assoc, append-nil, Vec}
use Rattle.std.specs.Iterator.{Drains}
use Rattle.std.specs.Prelude.{IfOk}
use Rattle.std.proofs.lemmas.Iterator.{IsCollectResult}
use Rattle.markdown_base.specs.Questions.{Question, Answer, Answers}
use Rattle.markdown_base.specs.Event.{event_view}
use Rattle.markdown_base.specs.declared.event.Event.{Event}
use Rattle.markdown_base.specs.declared.fault.Fault.{Fault}
use Rattle.markdown_defs.specs.Callback.{Asks}
use Rattle.markdown_inline.specs.Elements.{Element, Placed, question, event, events_of, questions_of}
use Rattle.markdown_inline.specs.NextGives.{NextGives, GivesItem, IsEventOf}
use Rattle.markdown_inline.specs.ParserLeft.{elements, parser_text, parser_callback}
use Rattle.markdown_inline.specs.Runs.{AreOf, GaveAll, GaveRest, WasRefused, IsRun}
use Rattle.markdown_inline.specs.declared.walk.Parser.{Parser}
use Rattle.markdown_document.proofs.CallbackLemmas.{Asks-append}

-- questions are no events
pub events_of-questions : (questions : List Question) (es : List Element) → events_of (map question questions ++ es)
    ≡ events_of es
events_of-questions [] es = refl
events_of-questions (q ∷ questions) es = events_of-questions questions es

pub questions_of-questions : (questions : List Question) (es : List Element)
    → questions_of (map question questions ++ es) ≡ questions
    ++ questions_of es
questions_of-questions [] es = refl
questions_of-questions (q ∷ questions) es = ap (λ qs. q ∷ qs) (questions_of-questions questions es)

module _ {S F I : Type 0} (step : F → Question → Option Answer → F → Type 0) (is_of : List ℕ → I → Placed → Type 0)
    (at : S
    → Parser F) where
  -- a call of `next`
  abbrev pub Steps : S → Option (Result I Fault) → S → Type 0
  Steps s r t = NextGives step is_of (at s) r (at t)

  -- the events that were left before an item, in terms of those that are left after it
  events_before : (s t : S) (item : I) (g : GivesItem step is_of (at s) item (at t)) (later : Answers)
      → events_of (elements (at s) (g.answers ++ later)) ≡ g.placed ∷ events_of (elements (at t) later)
  events_before s t item g later = rw (g.left later)
      (events_of-questions g.questions (event g.placed ∷ elements (at t) later))

  -- the questions that were left before an item, in the same terms
  questions_before : (s t : S) (item : I) (g : GivesItem step is_of (at s) item (at t)) (later : Answers)
      → questions_of (elements (at s) (g.answers ++ later)) ≡ g.questions ++ questions_of (elements (at t) later)
  questions_before s t item g later = rw (g.left later)
      (questions_of-questions g.questions (event g.placed ∷ elements (at t) later))

  -- after an item come all that are left then
  then_all : (s t : S) (item : I) (rest : List (Result I Fault)) → Steps s (Some (Ok item)) t
      → GaveAll is_of step (at t) rest
      → GaveAll is_of step (at s) (Ok item ∷ rest)
  then_all s t item rest h r =
      let g = h.gives in
      let a = r.rest in
      record {
        given = item ∷ r.given;
        no_fault = ap (λ xs. Ok item ∷ xs) r.no_fault;
        callback = r.callback;
        rest = record {
          events = g.placed ∷ a.events;
          are = (g.is_item, rw h.text at a.are);
          answers = g.answers ++ a.answers;
          asked = rw (questions_before s t item g a.answers)
              (Asks-append step (parser_callback (at s)) (parser_callback (at t)) r.callback
              g.questions (questions_of (elements (at t) a.answers)) g.answers a.answers g.asked a.asked);
          left = λ later. rw (append_assoc g.answers a.answers later) (events_before s t item g (a.answers ++ later)
              ∙ ap (λ xs. g.placed ∷ xs) (a.left later));
        };
      }

  -- or a beginning of them
  then_refused : (s t : S) (item : I) (rest : List (Result I Fault)) → Steps s (Some (Ok item)) t
      → WasRefused is_of step (at t) rest
      → WasRefused is_of step (at s) (Ok item ∷ rest)
  then_refused s t item rest h r =
      let g = h.gives in
      let b = r.beginning in
      let then : List Element = event g.placed ∷ b.first in
      record {
        given = item ∷ r.given;
        one_fault = ap (λ xs. Ok item ∷ xs) r.one_fault;
        callback = r.callback;
        beginning = record {
          first = map question g.questions ++ then;
          are = rw (events_of-questions g.questions then) (g.is_item, rw h.text at b.are);
          answers = g.answers ++ b.answers;
          asked = rw (questions_of-questions g.questions then)
              (Asks-append step (parser_callback (at s)) (parser_callback (at t)) r.callback
              g.questions (questions_of b.first) g.answers b.answers g.asked b.asked);
          begins = λ later.
              let o = b.begins later in
              (o.0, rw (append_assoc g.answers b.answers later, g.left (b.answers ++ later), o.1) (simp append_assoc));
        };
      }

  -- after an error nothing comes
  only_error : (s t : S) (fault : Fault) (rest : List (Result I Fault)) → Steps s (Some (Err fault)) t
      → Drains Steps t rest
      → WasRefused is_of step (at s) (Err fault ∷ rest)
  only_error s t fault [] h d =
      let g = h.gives in
      let asks : questions_of (map question g.questions ++ []) ≡ g.questions = questions_of-questions g.questions []
      ∙ append-nil g.questions in
      record {
        given = [];
        one_fault = rw g.memory refl;
        callback = parser_callback (at t);
        beginning = record {
          first = map question g.questions ++ [];
          are = rw (events_of-questions g.questions []) tt;
          answers = g.answers;
          asked = rw asks g.asked;
          begins = λ later. let b = g.begins later in (b.0, rw (append-nil (map question g.questions)) b.1);
        };
      }
  only_error s t fault (x ∷ rest) h (u, (v, (j, k, y), z)) = cc ((k.stays h.gives.over).0)

  -- the items so far are the first events that were left, for the answers that the callback gave to the questions
  -- before them
  pub record GaveFirst (s t : S) (given : List I) : Type 0 where
    pub text : parser_text (at t) ≡ parser_text (at s)
    pub events : List Placed
    pub are : AreOf is_of (parser_text (at s)) given events
    pub answers : Answers
    pub questions : List Question
    pub asked : Asks step (parser_callback (at s)) questions answers (parser_callback (at t))
    pub left : (later : Answers) → events_of (elements (at s) (answers ++ later))
        ≡ events ++ events_of (elements (at t) later)
    pub asks : (later : Answers) → questions_of (elements (at s) (answers ++ later))
        ≡ questions ++ questions_of (elements (at t) later)

  pub gave_none : (s : S) → GaveFirst s s []
  gave_none s = record {
    text = refl;
    events = [];
    are = tt;
    answers = [];
    questions = [];
    asked = refl;
    left = λ later. refl;
    asks =
        λ later. refl;
  }

  are-append : (source : List ℕ) (given : List I) (events : List Placed) (item : I) (placed : Placed)
      → AreOf is_of source given events
      → is_of source item placed
      → AreOf is_of source (given ++ item ∷ []) (events ++ placed ∷ [])
  are-append source [] [] item placed a h = (h, tt)
  are-append source [] (e ∷ events) item placed a h = absurd a
  are-append source (x ∷ given) [] item placed a h = absurd a
  are-append source (x ∷ given) (e ∷ events) item placed a h = (a.0, are-append source given events item placed a.1 h)

  pub gave_more : (s t u : S) (given : List I) (item : I) → GaveFirst s t given → Steps t (Some (Ok item)) u
      → GaveFirst s u (given ++ item ∷ [])
  gave_more s t u given item r h =
      let g = h.gives in
      record {
        text = h.text ∙ r.text;
        events = r.events ++ g.placed ∷ [];
        are = are-append (parser_text (at s)) given r.events item g.placed r.are (rw r.text at g.is_item);
        answers = r.answers ++ g.answers;
        questions = r.questions ++ g.questions;
        asked = Asks-append step (parser_callback (at s)) (parser_callback (at t)) (parser_callback (at u)) r.questions
            g.questions
            r.answers g.answers r.asked g.asked;
        left = λ later. rw (
          append_assoc r.answers g.answers later,
          r.left (g.answers ++ later),
          g.left later,
          events_of-questions
              g.questions (event g.placed ∷ elements (at u) later),
        ) (simp append_assoc);
        asks = λ later. rw (
          append_assoc r.answers g.answers later,
          r.asks (g.answers ++ later),
          g.left later,
          questions_of-questions
              g.questions (event g.placed ∷ elements (at u) later),
        ) (simp append_assoc);
      }

  -- at the end they are all
  pub gave_rest : (s t u : S) (given : List I) → GaveFirst s t given → Steps t None u
      → GaveRest is_of step (at s) given (parser_callback (at u))
  gave_rest s t u given r h =
      let n = h.gives in
      let q : questions_of (elements (at s) r.answers)
      ≡ r.questions = rw (append-nil r.answers, n.none_left [], append-nil r.questions) at
      (r.asks []) in
      record {
        events = r.events;
        are = r.are;
        answers = r.answers;
        asked = rw (q, n.callback) r.asked;
        left = λ later. rw (r.left later, n.none_left later) (append-nil r.events);
      }

  -- a run up to None
  pub is_run : (s : S) (all : List (Result I Fault)) → Drains Steps s all → IsRun is_of step (at s) all
  is_run s [] (u, (t, y, z)) =
      inl (record {
        given = [];
        no_fault = refl;
        callback = parser_callback (at u);
        rest = gave_rest s s u []
            (gave_none s) (rw y z);
      })
  is_run s (Ok item ∷ rest) (u, (t, (j, h, y), z)) =
      ⊎_elim (λ r. inl (then_all s j item rest h r)) (λ r. inr (then_refused s j item rest h r))
      (is_run j rest (u, (t, y, z)))
  is_run s (Err fault ∷ rest) (u, (t, (j, h, y), z)) = inr (only_error s j fault rest h (u, (t, y, z)))

  -- what `collect` makes is such a run
  pub collected : {Z E : Type 0} (s : S) (r : Result (Vec (Result I Fault) Z) E) → IsCollectResult Steps s r
      → IfOk r (λ v. IsRun is_of step (at s) v.items)
  collected s (Ok v) (xs, (t, y, n), i) =
      let d : Drains Steps s xs = let u = n tt in (u.0, (t, y, u.1)) in
      rw i.0 (is_run s xs d)
  collected s (Err x) h = tt

-- with no callback nothing is asked, and there is none afterwards
unasked : {C : Type 0} (step : C → Question → Option Answer → C → Type 0) (old new : Option C)
    (questions : List Question)
    (answers : Answers)
    → Asks step old questions answers new → old ≡ None → (answers ≡ []) × (new ≡ None)
unasked step old new [] [] h n = (refl, sym h ∙ n)
unasked step old new [] (a ∷ answers) h n = absurd h
unasked step old new (q ∷ questions) [] h n = absurd h
unasked step None new (q ∷ questions) (a ∷ answers) h n = absurd h
unasked step (Some c) new (q ∷ questions) (a ∷ answers) h n = cc n

-- so the items of a run without an error are what was left, for all answers
pub drained_unasked : {F : Type 0} (step : F → Question → Option Answer → F → Type 0) (p : Parser F)
    (given : List Event)
    → Drains (NextGives step IsEventOf) p (map (λ e. Ok e) given) → parser_callback p ≡ None
    → (later : Answers) → map (λ e. e.0) (events_of (elements p later)) ≡ map event_view given
drained_unasked step p [] (u, (t, y, z)) n later = rw (y, z.gives.none_left later) refl
drained_unasked step p (e ∷ given) (u, (t, (j, h, y), z)) n later =
    let g = h.gives in
    let none = unasked step (parser_callback p) (parser_callback j) g.questions g.answers g.asked n in
    let first = rw none.0 at (events_before step IsEventOf (λ q. q) p j e g later) in
    let rest = drained_unasked step j given (u, (t, y, z)) none.1 later in
    rw (first, g.is_item.view, rest) refl

-- whatever the callback answers, the events of a run without an error are those that were left
pub drained : {F : Type 0} (step : F → Question → Option Answer → F → Type 0) (p : Parser F) (given : List Event)
    → Drains (NextGives step IsEventOf) p (map (λ e. Ok e) given)
    → (answers : Answers)
    × ((later : Answers) → map (λ e. e.0) (events_of (elements p (answers ++ later))) ≡ map event_view given)
drained step p [] (u, (t, y, z)) = ([], λ later. rw (y, z.gives.none_left later) refl)
drained step p (e ∷ given) (u, (t, (j, h, y), z)) =
    let g = h.gives in
    let rest = drained step j given (u, (t, y, z)) in (
      g.answers ++ rest.0,
      λ later. rw (
        append_assoc g.answers rest.0 later,
        events_before step IsEventOf (λ q. q) p j e g (rest.0 ++ later),
        g.is_item.view,
        rest.1 later,
      ) refl,
    )
