-- A table of answers, which answers the questions of a callback one after another.
use Rattle.std.specs.Prelude.{ℕ, ◌&&◌, ◌==◌, Bool, List, [], ◌∷◌, if◌then◌else◌, Option, None}
use Rattle.std.specs.declared.ops.Range.{Range}
use Rattle.markdown_base.specs.Questions.{Answer, Answers, Question}
use Rattle.markdown_records.specs.RecordEntry.{RecordEntry, answer_entry, event_entry, question_entry}

-- answers, each to a question with this range
abbrev pub Table : Type 0
Table = List (Range ℕ × Option Answer)

abbrev pub is_range : Range ℕ → Range ℕ → Bool
is_range a b = (a.start == b.start) && (a.end == b.end)

-- the answers of a table to questions: the k-th one gets the k-th answer if that is to its range; all others get None
abbrev pub answers_by : Table → List Question → Answers
answers_by table [] = []
answers_by [] (q ∷ questions) = None ∷ answers_by [] questions
answers_by (a ∷ table) (q ∷ questions) =
    (if is_range a.0 q.span then a.1 else None) ∷ answers_by table questions

-- the table of entries: the answers that come before all else
abbrev pub table_of : List RecordEntry → Table
table_of [] = []
table_of (event_entry e range ∷ entries) = []
table_of (question_entry q ∷ entries) = []
table_of (answer_entry range a ∷ entries) = (range, a) ∷ table_of entries
