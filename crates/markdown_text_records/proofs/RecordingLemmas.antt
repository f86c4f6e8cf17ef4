-- Elements are written one after another, as a parser gives them.
use Rattle.std.proofs.Common.{◌≡◌, ◌∙◌, ◌++◌, ◌∷◌, ◌⊎◌, ℕ, List, [], Err, Ok, Result, Option, Some, None, ap, drop}
use Rattle.std.proofs.Common.{false, append-nil, append_assoc, inl, inr, length, map, refl, subst, sym, ⊎_elim, ap₂}
use Rattle.std.specs.Prelude.{⊤}
use Rattle.std.specs.Borrow.{Bor}
use Rattle.std.specs.List.{flat_map}
use Rattle.std.proofs.lemmas.List.{map-append}
use Rattle.std.proofs.lemmas.List.Concat.{flat_map-append}
use Rattle.std.specs.Result.{IsErrAnd}
use Rattle.std.proofs.lemmas.Result.{err_from_is_err_and}
use Rattle.markdown_base.specs.Questions.{Answers, Question}
use Rattle.markdown_base.specs.declared.fault.Fault.TheVariants.{Memory}
use Rattle.markdown_defs.specs.Callback.{Asks}
use Rattle.markdown_defs.specs.CallbackViews.{question_of}
use Rattle.markdown_document.proofs.CallbackLemmas.{Asks-append}
use Rattle.std.specs.declared.ops.Range.{Range}
use Rattle.markdown_base.specs.Event.{event_view}
use Rattle.markdown_base.specs.declared.event.Event.{Event}
use Rattle.markdown_inline.specs.Elements.{Element, event, question, questions_of}
use Rattle.markdown_inline.specs.NextGives.{GivesItem, IsPlacedOf, NextGives}
use Rattle.markdown_inline.specs.ParserLeft.{elements, parser_callback, parser_definitions}
use Rattle.markdown_inline.proofs.RunLemmas.{questions_of-questions}
use Rattle.markdown_inline.specs.declared.walk.Parser.{Parser}
use Rattle.markdown_records.specs.Drafts.{DraftView, entry_drafts, event_drafts, question_drafts}
use Rattle.markdown_records.specs.Encoded.{FitDrafts}
use Rattle.markdown_records.specs.RecordsOf.{WritesEntry, records_source, sheet_of}
use Rattle.markdown_records.specs.declared.encode.Records.{Records}
use Rattle.markdown_records.specs.declared.fault.RecordFault.{RecordFault}
use Rattle.markdown_records.specs.declared.fault.RecordFault.TheVariants.{Of, TooLong}
use Rattle.markdown_text_records.specs.AnsweringView.{AnswersByTable}
use Rattle.markdown_text_records.specs.RecordedEntries.{WritesEntries}
use Rattle.markdown_text_records.specs.Recording.{BeginsTooLong, IsCut, KeptAll, PushesAsked, PushesPlaced, RecordsOn}
use Rattle.markdown_text_records.specs.Recording.{asked_by, asked_number, element_drafts}
use Rattle.markdown_text_records.proofs.AskedLemmas.{IsLent, asked_between}
use Rattle.markdown_text_records.specs.TextRecords.{entry_of}
use Rattle.markdown_text_records.specs.declared.answering.Answering.{Answering}
use Rattle.markdown_records.proofs.WritesLemmas.{fit_later}
use Rattle.markdown_text_records.proofs.EntriesLemmas.{entries_none, entries_one, entries_refused, entries_then}

questions_of_both : (es fs : List Element) → questions_of (es ++ fs) ≡ questions_of es ++ questions_of fs
questions_of_both [] fs = refl
questions_of_both (question q ∷ es) fs = ap (λ qs. q ∷ qs) (questions_of_both es fs)
questions_of_both (event e ∷ es) fs = questions_of_both es fs

drafts_of_both : (es fs : List Element) → element_drafts (es ++ fs) ≡ element_drafts es ++ element_drafts fs
drafts_of_both es fs =
    ap (flat_map entry_drafts) (map-append entry_of es fs)
    ∙ flat_map-append entry_drafts (map entry_of es) (map entry_of fs)

drafts_of_questions : (qs : List Question) → element_drafts (map question qs) ≡ flat_map question_drafts qs
drafts_of_questions [] = refl
drafts_of_questions (q ∷ qs) = ap (λ ds. question_drafts q ++ ds) (drafts_of_questions qs)

-- nothing is written
pub records_nothing : {r : Records} {s : Parser Answering} → RecordsOn r s r s
records_nothing = record {
  first = [];
  answers = [];
  asked = refl;
  left = λ later. refl;
  definitions = refl;
  writes = entries_none;
}

-- elements are written, and then others
pub records_then : {r q m : Records} {s t u : Parser Answering} → RecordsOn r s q t → RecordsOn q t m u
    → RecordsOn r s m u
records_then {r} {m} {s} {t} {u} a b = record {
  first = a.first ++ b.first;
  answers = a.answers ++ b.answers;
  asked = rw (questions_of_both a.first b.first) (Asks-append AnswersByTable (parser_callback s) (parser_callback t)
      (parser_callback u) (questions_of a.first) (questions_of b.first) a.answers b.answers a.asked b.asked);
  left = λ later. ap (elements s) (append_assoc a.answers b.answers later) ∙ a.left (b.answers ++ later)
      ∙ ap (λ es. a.first ++ es) (b.left later) ∙ sym (append_assoc a.first b.first (elements u later));
  definitions = b.definitions ∙ a.definitions;
  writes = subst (λ ds. WritesEntries {A = ⊤} r ds (Ok tt) m) (sym (drafts_of_both a.first b.first))
      (entries_then (Ok tt) a.writes b.writes);
}

-- what is cut later is cut
pub cut_later : {r q : Records} {s t : Parser Answering} {fault : RecordFault} → RecordsOn r s q t → IsCut q t fault
    → IsCut r s fault
cut_later {r} {q} {s} {t} {fault} a why =
    ⊎_elim (λ (memory : fault ≡ Of Memory). inl memory) (λ (p : (fault ≡ TooLong) × BeginsTooLong q t).
    inr (p.0, later p.1)) why
  where
    later : BeginsTooLong q t → BeginsTooLong r s
    later b =
        let begin = b.begin in
        record {
          first = a.first ++ b.first;
          callback = b.callback;
          begin = record {
            answers = a.answers ++ begin.answers;
            asked = rw (questions_of_both a.first b.first) (Asks-append AnswersByTable (parser_callback s)
                (parser_callback t)
                b.callback (questions_of a.first) (questions_of b.first) a.answers begin.answers a.asked begin.asked);
            begins = λ more.
                let rest = begin.begins more in (
                  rest.0,
                  ap (elements s) (append_assoc a.answers begin.answers more) ∙ a.left (begin.answers ++ more)
                      ∙ ap (λ es. a.first ++ es) rest.1 ∙ sym (append_assoc a.first b.first rest.0),
                );
          };
          unfit = λ fit. b.unfit (rw (a.writes.source, a.writes.written)
              (fit_later (records_source r) (sheet_of r) (element_drafts a.first) (element_drafts b.first)
              (rw (drafts_of_both a.first b.first) at fit)));
        }

-- ---- one item

module _ {s t : Parser Answering} {item : Event × Range ℕ} (g : GivesItem AnswersByTable IsPlacedOf s item t) where
  -- the questions on the way to it, and its event
  abbrev step : List Element
  step = map question g.questions ++ event g.placed ∷ []

  asked_of_step : questions_of step ≡ g.questions
  asked_of_step = questions_of-questions g.questions (event g.placed ∷ []) ∙ append-nil g.questions

  left_of_step : (later : Answers) → elements s (g.answers ++ later) ≡ step ++ elements t later
  left_of_step later = g.left later ∙ sym (append_assoc (map question g.questions) (event g.placed ∷ [])
      (elements t later))

  drafts_of_step : element_drafts step
      ≡ flat_map question_drafts g.questions ++ event_drafts item.1 (event_view item.0)
  drafts_of_step =
      let is = g.is_item in
      let e = is.is_event in
      drafts_of_both (map question g.questions) (event g.placed ∷ [])
      ∙ ap₂ (λ xs ys. xs ++ ys) (drafts_of_questions g.questions)
      (append-nil (event_drafts g.placed.1 g.placed.0) ∙ ap₂ (λ range view. event_drafts range view) is.range e.view)

  -- all of it is written
  pub records_item : {r m : Records} → parser_definitions t ≡ parser_definitions s
      → WritesEntries {A = ⊤} r (flat_map question_drafts g.questions ++ event_drafts item.1 (event_view item.0))
      (Ok tt) m
      → RecordsOn r s m t
  records_item {r} {m} same writes = record {
    first = step;
    answers = g.answers;
    asked = rw asked_of_step g.asked;
    left = left_of_step;
    definitions = same;
    writes = subst (λ ds. WritesEntries {A = ⊤} r ds (Ok tt) m) (sym drafts_of_step) writes;
  }

  -- not all of it is
  pub cut_item : {r m : Records} {fault : RecordFault} → WritesEntries {A = ⊤} r
      (flat_map question_drafts g.questions ++ event_drafts item.1 (event_view item.0)) (Err fault) m → IsCut r s fault
  cut_item {r} {m} {fault} w =
      let all : WritesEntries {A = ⊤} r (element_drafts step) (Err fault) m =
      subst (λ ds. WritesEntries {A = ⊤} r ds (Err fault) m) (sym drafts_of_step) w in
      ⊎_elim (λ (memory : fault ≡ Of Memory). inl memory) (λ (p : (fault ≡ TooLong) × (FitDrafts (records_source r)
      (sheet_of r) (element_drafts step) → ⊥)). inr (
        p.0,
        record {
          first = step;
          callback = parser_callback t;
          begin = record {
            answers = g.answers;
            asked = rw asked_of_step g.asked;
            begins = λ later. (elements t later, left_of_step later);
          };
          unfit = p.1;
        },
      )) all.refused

-- ---- a call of `next`, and what is then written

-- at the end nothing is
pub records_end : {r : Records} {s t : Parser Answering} → NextGives AnswersByTable IsPlacedOf s None t
    → RecordsOn r s r t × ((answers : Answers) → elements t answers ≡ [])
records_end h =
    let g = h.gives in
    let over = g.over in (
      record {
        first = [];
        answers = [];
        asked = sym g.callback;
        left = λ later. g.none_left later ∙ sym (over.left later);
        definitions = h.definitions;
        writes = entries_none;
      },
      over.left,
    )

module _ {s t : Parser Answering} (e : Event) (range : Range ℕ)
    (h : NextGives AnswersByTable IsPlacedOf s (Some (Ok (e, range))) t) (before after : Option (Bor Answering))
    (was : IsLent before (parser_callback s)) (is : IsLent after (parser_callback t)) (first : ℕ)
    (so : first ≡ asked_number before) where
  -- the questions on the way to it are those that are written
  drafts_are : KeptAll after → flat_map question_drafts (map question_of (drop first (asked_by after)))
      ++ event_drafts range (event_view e)
      ≡ flat_map question_drafts h.gives.questions ++ event_drafts range (event_view e)
  drafts_are kept =
      let g = h.gives in
      ap (λ (n : ℕ). flat_map question_drafts (map question_of (drop n (asked_by after)))
      ++ event_drafts range (event_view e)) so
      ∙ ap (λ qs. flat_map question_drafts qs ++ event_drafts range (event_view e)) (asked_between before after
      (parser_callback s) (parser_callback t) g.questions g.answers was is kept g.asked)

  pub item_cut : {r m : Records} {fault : RecordFault} → PushesPlaced r after first e range (Err fault) m
      → IsCut r s fault
  item_cut {r} {m} {fault} w =
      ⊎_elim (λ (p : KeptAll after × WritesEntries r (flat_map question_drafts (map question_of (drop first
      (asked_by after))) ++ event_drafts range (event_view e)) (Err fault) m). cut_item h.gives
      (subst (λ ds. WritesEntries {A = ⊤} r ds (Err fault) m) (drafts_are p.0) p.1))
      (λ (p : Err fault ≡ Err (Of Memory)). inl (cc (p))) w

  pub item_written : {r m : Records} → PushesPlaced r after first e range (Ok (tt {0})) m → RecordsOn r s m t
  item_written {r} {m} w =
      ⊎_elim (λ (p : KeptAll after × WritesEntries r (flat_map question_drafts (map question_of (drop first
      (asked_by after))) ++ event_drafts range (event_view e)) (Ok (tt {0})) m). records_item h.gives h.definitions
      (subst (λ ds. WritesEntries {A = ⊤} r ds (Ok (tt {0})) m) (drafts_are p.0) p.1))
      (λ (p : Ok (tt {0}) ≡ Err (Of Memory)). absurd (cc (p))) w

-- ---- the questions, and then the event

pub placed_cut : {r q : Records} {fault : RecordFault} {result : Result ⊤ RecordFault} (e : Event) (range : Range ℕ)
    (after : Option (Bor Answering)) (first : ℕ) → IsErrAnd result (λ y. y ≡ fault)
    → PushesAsked r after first (Err fault) q → PushesPlaced r after first e range result q
placed_cut {r} {q} {fault} {result} e range after first is w =
    let p = err_from_is_err_and result is in
    ⊎_elim (λ (p : KeptAll after × WritesEntries r (flat_map question_drafts (map question_of (drop first
    (asked_by after)))) (Err fault) q). inl (p.0, entries_refused (event_drafts range (event_view e)) is p.1))
    (λ (memory : Err fault ≡ Err (Of Memory)). inr (rw (p.1, p.2) memory)) w

pub placed_then : {r q m : Records} (e : Event) (range : Range ℕ) (after : Option (Bor Answering)) (first : ℕ)
    (result : Result ⊤ RecordFault) → PushesAsked r after first (Ok (tt {0})) q
    → WritesEntry q (event_drafts range (event_view e)) result m → PushesPlaced r after first e range result m
placed_then {r} {q} e range after first result w v =
    ⊎_elim (λ (p : KeptAll after × WritesEntries r (flat_map question_drafts (map question_of (drop first
    (asked_by after)))) (Ok (tt {0})) q). inl (p.0, entries_then result p.1 (entries_one v)))
    (λ (p : Ok (tt {0}) ≡ Err (Of Memory)). absurd (cc (p))) w
