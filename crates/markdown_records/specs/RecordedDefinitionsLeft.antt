-- What a `RecordDefinitions` has left, and what a call of `next` gives. Only private fields are behind these names.
use Rattle.std.specs.Prelude.{◌≡◌, ℕ, List, [], ◌∷◌, length, Option, None, Some}
use Rattle.markdown_records.specs.EntryOf.{labelled_view}
use Rattle.markdown_records.specs.RecordEntry.{LabelledView}
use Rattle.markdown_records.specs.SaidBy.{list_or_none, said_definitions}
use Rattle.markdown_records.specs.declared.read_entries.Labelled.{Labelled}
use Rattle.markdown_records.specs.declared.record_definitions.RecordDefinitions.{RecordDefinitions}

-- the definitions that are left
abbrev pub recorded_definitions_left : RecordDefinitions → List LabelledView
recorded_definitions_left d = list_or_none (said_definitions d.source.now d.pool.now d.left.now)

-- a definition was the first of those left, or there was none
abbrev pub GivesDefinition : (left : List LabelledView) → Option Labelled → (later : List LabelledView) → Type 0
GivesDefinition left None later = (left ≡ []) × (later ≡ [])
GivesDefinition left (Some d) later = left ≡ labelled_view d ∷ later

-- a call of `next`
abbrev pub definition_steps : RecordDefinitions → Option Labelled → RecordDefinitions → Type 0
definition_steps d given t = GivesDefinition (recorded_definitions_left d) given (recorded_definitions_left t)

-- how many bytes of records are left
abbrev pub definition_bytes_left : RecordDefinitions → ℕ
definition_bytes_left d = length d.left.now
