-- What a `RecordAnswers` has left, and what a call of `next` gives. Only private fields are behind these names.
use Rattle.std.specs.Prelude.{◌≡◌, Bool, true, false, List, [], ◌∷◌, ℕ, length, Option, None, Some}
use Rattle.std.specs.Option.{option_map}
use Rattle.markdown_records.specs.EntryOf.{answer_view}
use Rattle.markdown_records.specs.RecordEntry as entry
use Rattle.markdown_records.specs.RecordEntry.{RecordEntry}
use Rattle.markdown_records.specs.SaidBy.{list_or_none, said_entries}
use Rattle.markdown_records.specs.declared.record_answers.Answered.{Answered}
use Rattle.markdown_records.specs.declared.record_answers.RecordAnswers.{RecordAnswers}

-- the entries that are left, of which the first are answers
abbrev pub answer_entries_left : RecordAnswers → List RecordEntry
answer_entries_left a = list_or_none (said_entries a.source.now a.pool.now a.left.now)

-- an answer, as an entry
abbrev pub answered_view : Answered → RecordEntry
answered_view a = entry.answer_entry a.span (option_map answer_view a.answer)

-- whether an entry is an answer
abbrev pub is_answer : RecordEntry → Bool
is_answer (entry.event_entry e range) = false
is_answer (entry.question_entry q) = false
is_answer (entry.answer_entry range a) = true

-- whether the first entry is an answer
abbrev pub begins_with_answer : List RecordEntry → Bool
begins_with_answer [] = false
begins_with_answer (e ∷ rest) = is_answer e

-- an answer was the first of the entries left, or no answer was, and they are left
abbrev pub GivesAnswer : (left : List RecordEntry) → Option Answered → (later : List RecordEntry) → Type 0
GivesAnswer left None later = (begins_with_answer left ≡ false) × (later ≡ left)
GivesAnswer left (Some a) later = left ≡ answered_view a ∷ later

-- a call of `next`
abbrev pub answer_steps : RecordAnswers → Option Answered → RecordAnswers → Type 0
answer_steps a given t = GivesAnswer (answer_entries_left a) given (answer_entries_left t)

-- how many bytes of records are left
abbrev pub answer_bytes_left : RecordAnswers → ℕ
answer_bytes_left a = length a.left.now
