-- A callback that answers from a table and keeps what it is asked. Only private fields are behind these names.
use Rattle.std.specs.Prelude.{◌≡◌, ◌++◌, ◌∷◌, [], ℕ, List, drop, false, map, Option}
use Rattle.std.specs.Borrow.{Bor}
use Rattle.std.specs.Option.{option_map, option_map_or}
use Rattle.std.specs.declared.ops.Range.{Range}
use Rattle.markdown_base.specs.Questions.{Answer, Question}
use Rattle.markdown_defs.specs.CallbackViews.{question_of}
use Rattle.markdown_records.specs.AnswersLeft.{answer_entries_left}
use Rattle.markdown_records.specs.EntryOf.{answer_view}
use Rattle.markdown_records.specs.declared.record_answers.RecordAnswers.{RecordAnswers}
use Rattle.markdown_text_records.specs.AnswerTable.{Table, answers_by, table_of}
use Rattle.markdown_text_records.specs.declared.answering.Answering.{Answering}

-- the table of the answers that are left
abbrev pub table_in : Option RecordAnswers → Table
table_in answers = option_map_or (λ a. table_of (answer_entries_left a)) answers []

-- the answers of the table that no question has got yet
abbrev pub table_left : Answering → Table
table_left c = table_in c.answers

-- the answer is the next one of the table, and unless an allocation was refused, the question is kept after those
-- before
pub record AnswersByTable (old : Answering) (question : Question) (answer : Option Answer)
    (new : Answering) : Type 0 where
  pub by_table : answer ∷ [] ≡ answers_by (table_left old) (question ∷ [])
  pub left : table_left new ≡ drop 1 (table_left old)
  pub kept : new.is_refused ≡ false → (old.is_refused ≡ false)
      × (map question_of new.asked.items ≡ map question_of old.asked.items ++ question ∷ [])

-- a question of this range gets this answer, which is the next one of the table; what was asked stays
pub record AnswersNext (old : Answering) (span : Range ℕ) (answer : Option (Bor (List ℕ) × Bor (List ℕ)))
    (new : Answering) : Type 0 where
  pub by_table : (q : Question) → q.span ≡ span
      → option_map answer_view answer ∷ [] ≡ answers_by (table_left old) (q ∷ [])
  pub left : table_left new ≡ drop 1 (table_left old)
  pub asked : new.asked ≡ old.asked
  pub refused : new.is_refused ≡ old.is_refused
