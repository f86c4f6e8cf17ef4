-- What a callback gives of its table.
use Rattle.std.proofs.Common.{◌≡◌, ◌∙◌, ◌∷◌, ℕ, Bool, true, false, List, [], drop, refl, sym, ap, subst, if◌then◌else◌}
use Rattle.std.proofs.Common.{Option, Some, None}
use Rattle.std.specs.Borrow.{Bor}
use Rattle.std.specs.Option.{option_map}
use Rattle.std.specs.declared.ops.Range.{Range}
use Rattle.markdown_base.specs.Questions.{Answer, Question}
use Rattle.markdown_records.specs.AnswersLeft.{answer_entries_left, answer_steps, begins_with_answer}
use Rattle.markdown_records.specs.EntryOf.{answer_view}
use Rattle.markdown_records.specs.RecordEntry.{RecordEntry, answer_entry, event_entry, question_entry}
use Rattle.markdown_records.specs.declared.record_answers.Answered.{Answered}
use Rattle.markdown_records.specs.declared.record_answers.RecordAnswers.{RecordAnswers}
use Rattle.markdown_text_records.specs.AnswerTable.{answers_by, is_range, table_of}
use Rattle.markdown_text_records.specs.AnsweringView.{AnswersNext, table_in, table_left}
use Rattle.markdown_text_records.specs.declared.answering.Answering.{Answering}

-- where a link leads, by the table
answer_for : (given : Answered) (b : Bool) → option_map answer_view (if b then given.answer else None)
    ≡ (if b then option_map answer_view given.answer else None)
answer_for given true = refl
answer_for given false = refl

-- the same callback with these answers
abbrev pub with_answers : Answering → RecordAnswers → Answering
with_answers c left = record { answers = Some left; asked = c.asked; is_refused = c.is_refused }

-- the next answer of the table is given, if it is to this range
pub gives_next : (c : Answering) (span : Range ℕ) (old new : RecordAnswers) (given : Answered) → c.answers ≡ Some old
    → answer_steps old (Some given) new → (b : Bool) → is_range given.span span ≡ b
    → AnswersNext c span (if b then given.answer else None) (with_answers c new)
gives_next c span old new given is step b to =
    let more : table_left c ≡ (given.span, option_map answer_view given.answer) ∷ table_of (answer_entries_left new) =
    ap (λ (o : Option RecordAnswers). table_in o) is ∙ ap table_of step in
    record {
      by_table = λ q e. subst (λ table. option_map answer_view (if b then given.answer else None) ∷ []
          ≡ answers_by table (q ∷ [])) (sym more) (ap (λ a. a ∷ []) (answer_for given b
          ∙ ap (λ (b : Bool). if b then option_map answer_view given.answer else None)
          (sym to ∙ ap (is_range given.span) (sym e))));
      left = ap (drop 1) (sym more);
      asked = refl;
      refused = refl;
    }

-- without a first answer there is no table
no_table : (entries : List RecordEntry) → begins_with_answer entries ≡ false → table_of entries ≡ []
no_table [] is = refl
no_table (event_entry e range ∷ entries) is = refl
no_table (question_entry q ∷ entries) is = refl
no_table (answer_entry range a ∷ entries) is = cc (is)

-- no answer is left
pub gives_none : (c : Answering) (span : Range ℕ) (old new : RecordAnswers) → c.answers ≡ Some old
    → answer_steps old None new → AnswersNext c span None (with_answers c new)
gives_none c span old new is step =
    let none : table_left c ≡ [] = ap (λ (o : Option RecordAnswers). table_in o) is ∙ no_table _ step.0 in
    record {
      by_table = λ q e. subst (λ table. None ∷ [] ≡ answers_by table (q ∷ [])) (sym none) refl;
      left = ap table_of step.1 ∙ no_table _ step.0 ∙ ap (drop 1) (sym none);
      asked = refl;
      refused = refl;
    }
