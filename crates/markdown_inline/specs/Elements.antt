-- What is read of a document: events with their ranges, the questions between them, and the counts of the chain that is
-- resolved before the first event.
use Rattle.std.specs.Prelude.{ℕ, List, [], ◌∷◌}
use Rattle.std.specs.declared.ops.Range.{Range}
use Rattle.markdown_base.specs.Event.{EventView}
use Rattle.markdown_base.specs.Questions.{Question}
use Rattle.markdown_document.specs.Counts.{ChainCounts, no_counts}
use Rattle.markdown_document.specs.Document.{Origin}
use Rattle.markdown_document.specs.Setting.{ReferenceState}

-- an event with its range, and with the origin of each of its texts
abbrev pub Placed : Type 0
Placed = EventView × Range ℕ × List Origin

-- an element of a reading
pub data Element : Type 0 where
  question : Question → Element
  event : Placed → Element

-- what is read: elements, and the counts of the chain that is resolved before the first event, if one is
pub record Passage : Type 0 where
  pub elements : List Element
  pub counts : ChainCounts

-- one event, before which no chain is resolved, and then the rest
abbrev pub event_first : Placed → (rest : Passage) → Passage
event_first e rest = record { elements = event e ∷ rest.elements; counts = no_counts }

-- a reading, from what is known before it
abbrev pub Reading : Type 0
Reading = ReferenceState → Passage

-- the empty reading
abbrev pub nothing_read : Reading
nothing_read state = record { elements = []; counts = no_counts }

-- one event, and then another reading
abbrev pub then_reads : Placed → Reading → Reading
then_reads e after state = event_first e (after state)

-- the events of a reading
abbrev pub events_of : List Element → List Placed
events_of [] = []
events_of (question q ∷ es) = events_of es
events_of (event e ∷ es) = e ∷ events_of es

-- the questions of a reading
abbrev pub questions_of : List Element → List Question
questions_of [] = []
questions_of (question q ∷ es) = q ∷ questions_of es
questions_of (event e ∷ es) = questions_of es
