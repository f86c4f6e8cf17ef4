-- What is said by the bytes of entries, those of definitions, and both.
use Rattle.std.specs.Prelude.{ℕ, List, [], Option, None, Some, filter_map}
use Rattle.std.specs.Option.{option_map}
use Rattle.markdown_base.specs.Event.{EventView}
use Rattle.markdown_records.specs.Decoded.{definition_in, entry_in, said_by, then_option}
use Rattle.markdown_records.specs.RecordEntry.{Contents, RecordEntry, LabelledView}
use Rattle.markdown_records.specs.RecordEntry as entry
use Rattle.markdown_records.specs.RecordView.{records_in}

module _ (source pool : List ℕ) where
  abbrev pub said_entries : (bytes : List ℕ) → Option (List RecordEntry)
  said_entries bytes = said_by source pool (entry_in source pool) (records_in bytes)

  abbrev pub said_definitions : (bytes : List ℕ) → Option (List LabelledView)
  said_definitions bytes = said_by source pool (definition_in source pool) (records_in bytes)

  -- what bytes of entries and bytes of definitions say
  abbrev pub said_contents : (entries definitions : List ℕ) → Option Contents
  said_contents entries definitions = then_option (said_entries entries)
      (λ es. option_map (λ ds. record { entries = es; definitions = ds }) (said_definitions definitions))

-- a list, or nothing
abbrev pub list_or_none : {A : Type 0} → Option (List A) → List A
list_or_none None = []
list_or_none (Some xs) = xs

-- contents, or nothing
abbrev pub contents_or_none : Option Contents → Contents
contents_or_none None = record { entries = []; definitions = [] }
contents_or_none (Some c) = c

-- the event of an entry
abbrev pub event_of : RecordEntry → Option EventView
event_of (entry.event_entry e range) = Some e
event_of (entry.question_entry q) = None
event_of (entry.answer_entry range a) = None

-- the events among entries
abbrev pub events_among : List RecordEntry → List EventView
events_among entries = filter_map event_of entries
