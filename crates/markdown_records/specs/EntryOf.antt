-- Entries and definitions of the code, as views.
use Rattle.std.specs.Prelude.{ℕ, List, Option, Some}
use Rattle.std.specs.Option.{option_map}
use Rattle.std.specs.Borrow.{Bor}
use Rattle.markdown_base.specs.BlockParts.{definition_view}
use Rattle.markdown_base.specs.Event.{event_view}
use Rattle.markdown_base.specs.Questions.{Answer}
use Rattle.markdown_records.specs.RecordEntry as entry
use Rattle.markdown_records.specs.RecordEntry.{RecordEntry, LabelledView}
use Rattle.markdown_records.specs.declared.read_entries.Entry.{Entry}
use Rattle.markdown_records.specs.declared.read_entries.Entry.TheVariants as held
use Rattle.markdown_records.specs.declared.read_entries.Labelled.{Labelled}

-- a destination with a title
abbrev pub answer_view : Bor (List ℕ) × Bor (List ℕ) → Answer
answer_view texts = record { destination = texts.0.now; title = texts.1.now }

-- the same, as an answer that is not None
abbrev pub given_answer : Bor (List ℕ) × Bor (List ℕ) → Option Answer
given_answer texts = Some (answer_view texts)

-- an entry, by its texts
abbrev pub entry_said : Entry → RecordEntry
entry_said (held.Event e range) = entry.event_entry (event_view e) range
entry_said (held.Question span link_type label) =
    entry.question_entry (record { span = span; link_type = link_type; reference = label.now })
entry_said (held.Answer span given) = entry.answer_entry span (option_map answer_view given)

-- a definition with its label, by their texts
abbrev pub labelled_view : Labelled → LabelledView
labelled_view l = record { label = l.label.now; definition = definition_view l.definition }
