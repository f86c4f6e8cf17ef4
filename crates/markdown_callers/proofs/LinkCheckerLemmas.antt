-- What one more event adds to the links of a text, and what the count is after some questions.
use Rattle.std.proofs.Common.{◌≡◌, ℕ, ◌+◌, ◌≤◌, List, [], ◌∷◌, ◌++◌, length, map, min, Option, Some, None, append_assoc}
use Rattle.std.proofs.Common.{ap, arith, refl, subst, sym, ◌∙◌}
use Rattle.std.proofs.lemmas.List.{map-append}
use Rattle.std.proofs.lemmas.List.Elements.{filter_map-append}
use Rattle.std.specs.Option.{option_map, option_to_list}
use Rattle.std.specs.declared.ops.Range.{Range}
use Rattle.markdown.specs.DefsWords.{Answers, Asks, Question}
use Rattle.markdown.specs.EventWords.{Event, event_view}
use Rattle.markdown.specs.OptionWords.{commonmark, source_as}
use Rattle.markdown.specs.ReadingWords.{GaveRest, IsPlacedOf, OffsetIter, Parser, Ranged, ReadsText, elements}
use Rattle.markdown.specs.ReadingWords.{offset_parser, parser_callback, questions_of, viewed}
use Rattle.markdown_callers.specs.LinkChecker.{CountsQuestion, CountsQuestions, event_target, greatest_count}
use Rattle.markdown_callers.specs.LinkChecker.{link_target, targets_of}
use Rattle.markdown_callers.proofs.TextReadingLemmas.{are_questions}
use Rattle.markdown_callers.specs.declared.link_checker.FoundLink.{FoundLink}
use Rattle.markdown_callers.specs.declared.link_checker.UndefinedLabels.{UndefinedLabels}

-- what is found at an event is its link, if it begins one
link_of_event : (e : Ranged) (found : Option FoundLink) → option_map link_target found ≡ event_target e
    → map link_target (option_to_list found) ≡ targets_of (e ∷ [])
link_of_event e None is = rw (← is) refl
link_of_event e (Some link) is = rw (← is) refl

-- the links of some events, and what is found at the next, are those of all of them
pub links-more : (given : List (Event × Range ℕ)) (e : Event × Range ℕ) (links : List FoundLink)
    (found : Option FoundLink)
    → map link_target links ≡ targets_of (viewed given)
    → option_map link_target found ≡ event_target (event_view e.0, e.1)
    → map link_target (links ++ option_to_list found) ≡ targets_of (viewed (given ++ e ∷ []))
links-more given e links found so_far is =
    let see : Event × Range ℕ → Ranged = λ e. (event_view e.0, e.1) in
    rw (map-append link_target links (option_to_list found), so_far, link_of_event (see e) found is)
    (rw (map-append see given (e ∷ []), filter_map-append event_target (viewed given) (see e ∷ [])) refl)

-- an item was taken from those that are left
pub taken-more : {A : Type 0} (taken left left' items : List A) (item : A) → taken ++ left ≡ items
    → left ≡ item ∷ left' → (taken ++ item ∷ []) ++ left' ≡ items
taken-more taken left left' items item all next = rw (append_assoc, ← next) all

-- nothing is left of a list without length, and an item that was taken shortens what is left
pub none_left : {A : Type 0} (left : List A) → length left ≡ 0 → left ≡ []
none_left [] h = refl
none_left (x ∷ xs) h = absurd (omega arith)

pub one_less : {A : Type 0} (n m : ℕ) (left left' : List A) (item : A) → n ≡ length left → left ≡ item ∷ left' → m + 1
    ≡ n
    → m ≡ length left'
one_less n m left left' item is next fewer = let shorter = ap length next in omega arith

-- questions led from one count to another: none was answered, and each counted
pub record Counted (old : UndefinedLabels) (questions : List Question) (answers : Answers)
    (after : Option UndefinedLabels)
    : Type 0 where
  pub new : UndefinedLabels
  pub is : after ≡ Some new
  pub refused : answers ≡ map (λ q. None) questions
  pub count : new.count ≡ min (old.count + length questions) greatest_count

-- so does each run of questions
pub counted : (old : UndefinedLabels) (questions : List Question) (answers : Answers) (after : Option UndefinedLabels)
    → old.count ≤ greatest_count → Asks CountsQuestion (Some old) questions answers after
    → Counted old questions answers after
counted old [] [] after bound asks = record { new = old; is = sym asks; refused = refl; count = omega arith }
counted old [] (answer ∷ answers) after bound asks = absurd asks
counted old (q ∷ questions) [] after bound asks = absurd asks
counted old (q ∷ questions) (answer ∷ answers) after bound (then, step, more) =
    let rest = counted then questions answers after (omega arith) more in record {
      new = rest.new;
      is = rest.is;
      refused = rw (step.0, rest.refused) refl;
      count = omega arith;
    }

-- so the count of a callback that was asked about a whole text is that of its questions
pub counts_questions : (text : List ℕ) (p : Parser UndefinedLabels) (o : OffsetIter UndefinedLabels)
    (given : List (Event × Range ℕ)) (old : UndefinedLabels) (after : Option UndefinedLabels)
    → ReadsText (source_as commonmark text) p → parser_callback p ≡ Some old → old.count ≡ 0 → offset_parser o ≡ p
    → GaveRest IsPlacedOf CountsQuestion (offset_parser o) given after
    → (new : UndefinedLabels) × (after ≡ Some new) × CountsQuestions text new.count
counts_questions text p o given old after reads holds zero begun all =
    let rest : GaveRest IsPlacedOf CountsQuestion p given after = rw begun at all in
    let questions : List Question = questions_of (elements p rest.answers) in
    let c = counted old questions rest.answers after (omega arith)
    (subst (λ (b : Option UndefinedLabels). Asks CountsQuestion b (questions_of (elements p rest.answers)) rest.answers
    after) holds
    rest.asked) in (
      c.new,
      c.is,
      record {
        questions = questions;
        asked = are_questions CountsQuestion text p old rest.answers reads holds c.refused;
        counted = c.count ∙ ap (λ (n : ℕ). min n greatest_count)
            (let none : old.count + length questions ≡ length questions = omega (arith, zero) in none);
      },
    )
