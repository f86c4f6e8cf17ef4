-- What the records of a text say: the reading of the text, in which a table answers the questions of the callback, and
-- its link reference definitions.
use Rattle.std.specs.Prelude.{◌≡◌, ◌⊎◌, ◌≤◌, ◌^◌, ◌++◌, max, length, true, ℕ, List, [], ◌∷◌, map, if◌then◌else◌, Option}
use Rattle.std.specs.Prelude.{Some, None}
use Rattle.std.specs.List.{fold, list_any}
use Rattle.markdown_base.specs.Questions.{Answers}
use Rattle.markdown_base.specs.Source.{Source}
use Rattle.markdown_base.specs.declared.fault.Fault.TheVariants.{Memory}
use Rattle.markdown_block_rules.specs.BlockRules.{block_definitions}
use Rattle.markdown_builder.specs.BuilderView.{Definition}
use Rattle.markdown_defs.specs.Folding.{is_match}
use Rattle.markdown_inline.specs.Elements.{Element, event, question, questions_of}
use Rattle.markdown_inline.specs.ReadingOfText.{reading_of_text, unlabelled}
use Rattle.markdown_records.specs.RecordEntry as entry
use Rattle.markdown_records.specs.RecordEntry.{Contents, RecordEntry, LabelledView}
use Rattle.markdown_records.specs.Encoded.{FitDrafts, blank, encoded, whole_sheet}
use Rattle.markdown_records.specs.ReadsBack.{drafts_of}
use Rattle.markdown_records.specs.declared.fault.RecordFault.{RecordFault}
use Rattle.markdown_records.specs.declared.fault.RecordFault.TheVariants.{Of, TooLong}
use Rattle.markdown_text_records.specs.AnswerTable.{Table, answers_by}

-- an element of a reading, as an entry
abbrev pub entry_of : Element → RecordEntry
entry_of (question q) = entry.question_entry q
entry_of (event e) = entry.event_entry e.0 e.1

-- the definitions so far with one more, unless the label of one of them matches
abbrev pub with_first : List Definition → Definition → List Definition
with_first kept d = if list_any (λ (other : Definition). is_match d.label other.label) kept then kept else kept
    ++ d ∷ []

-- the definitions that can be found: of those whose labels match, the first
abbrev pub findable : List Definition → List Definition
findable definitions = fold with_first [] definitions

abbrev pub labelled : Definition → LabelledView
labelled d = record { label = d.label; definition = unlabelled d }

-- what is said of a text for these answers to its questions
abbrev pub contents_of_text : Source → Answers → Contents
contents_of_text s answers = record {
  entries = map entry_of (reading_of_text s true answers);
  definitions = map labelled (findable (block_definitions s));
}

-- the answers of a table to the questions of a text, which is read with these answers
abbrev pub AreAnswers : Source → Table → Answers → Type 0
AreAnswers s table answers = answers ≡ answers_by table (questions_of (reading_of_text s true answers))

-- what is said of a text whose questions a table answers
pub record AreContentsOf (s : Source) (table : Table) (c : Contents) : Type 0 where
  pub answers : Answers
  pub by_table : AreAnswers s table answers
  pub are : c ≡ contents_of_text s answers

-- the records of a text whose questions a table answers
pub record AreRecordsOf (s : Source) (table : Table) (bytes : List ℕ) : Type 0 where
  pub contents : Contents
  pub of_text : AreContentsOf s table contents
  pub are : bytes ≡ encoded s.text contents

-- contents have no records: a number in them, or the length of the text or of the pool, would be 2^32 or more
abbrev pub AreTooLong : (source : List ℕ) → Contents → Type 0
AreTooLong source c = (FitDrafts source blank (drafts_of c) → ⊥)
    ⊎ (2 ^ 32 ≤ max (length source) (length (whole_sheet source c).pool))

-- first elements of a text have no records, whatever answers follow those before them; or they have none with the
-- definitions
pub record BeginsTooLong (s : Source) : Type 0 where
  pub answers : Answers
  pub first : List Element
  pub begins : (later : Answers) → (others : List Element) × (reading_of_text s true (answers ++ later) ≡ first
      ++ others)
  pub definitions : List LabelledView
  pub none_or_all : (definitions ≡ []) ⊎ (definitions ≡ map labelled (findable (block_definitions s)))
  pub too_long : AreTooLong s.text (record { entries = map entry_of first; definitions = definitions })

-- this is why a text has no records: an allocation failed, or they would be too long
abbrev pub IsFaultOfText : Source → RecordFault → Type 0
IsFaultOfText s fault = (fault ≡ Of Memory) ⊎ ((fault ≡ TooLong) × BeginsTooLong s)
