-- What records say, one entry after another: events with their ranges and the questions between them; the answers of a
-- caller; and after the events the link reference definitions.
use Rattle.std.specs.Prelude.{ℕ, List, Option}
use Rattle.std.specs.declared.ops.Range.{Range}
use Rattle.markdown_base.specs.BlockParts.{DefinitionView}
use Rattle.markdown_base.specs.Event.{EventView}
use Rattle.markdown_base.specs.Questions.{Answer, Question}

-- an entry
pub data RecordEntry : Type 0 where
  event_entry : EventView → Range ℕ → RecordEntry
  -- a question to the callback, asked directly before the event that follows
  question_entry : Question → RecordEntry
  -- the answer to a question with this range
  answer_entry : Range ℕ → Option Answer → RecordEntry

-- a link reference definition, with its link label
pub record LabelledView : Type 0 where
  pub label : List ℕ
  pub definition : DefinitionView

-- all that records of a text say
pub record Contents : Type 0 where
  pub entries : List RecordEntry
  pub definitions : List LabelledView
