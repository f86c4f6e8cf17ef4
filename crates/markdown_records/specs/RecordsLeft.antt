-- What an iterator over records has left, and what a call of `next` gives. Only private fields are behind these names.
use Rattle.std.specs.Prelude.{◌≡◌, ◌<◌, ℕ, true, is_some, List, [], ◌∷◌, length, Option, None, Some, Result, Ok, Err}
use Rattle.std.specs.Option.{option_map}
use Rattle.markdown_base.specs.Event.{EventView, event_view}
use Rattle.markdown_base.specs.declared.event.Event.{Event}
use Rattle.markdown_base.specs.declared.fault.Fault.{Fault}
use Rattle.markdown_base.specs.declared.fault.Fault.TheVariants.{Memory}
use Rattle.markdown_records.specs.EntryOf.{entry_said}
use Rattle.markdown_records.specs.RecordEntry.{RecordEntry}
use Rattle.markdown_records.specs.SaidBy.{events_among, list_or_none, said_entries}
use Rattle.markdown_records.specs.declared.read_entries.Entry.{Entry}
use Rattle.markdown_records.specs.declared.record_events.RecordEvents.{RecordEvents}

-- the entries that are left, if each can be read
abbrev pub entries_left : RecordEvents → Option (List RecordEntry)
entries_left e = said_entries e.source.now e.pool.now e.left.now

-- each entry that is left can be read
abbrev pub EntriesCanBeRead : RecordEvents → Type 0
EntriesCanBeRead e = is_some (entries_left e) ≡ true

-- the events that are left
abbrev pub events_left : RecordEvents → List EventView
events_left e = events_among (list_or_none (entries_left e))

-- how many bytes of records are left
abbrev pub bytes_left : RecordEvents → ℕ
bytes_left e = length e.left.now

-- an entry was the first of those left, or there was none; or an allocation failed, and nothing is left
abbrev pub GivesEntry : (old : RecordEvents) → Option (Result Entry Fault) → (new : RecordEvents) → Type 0
GivesEntry old None new = (entries_left old ≡ Some []) × (new ≡ old)
GivesEntry old (Some (Ok e)) new = (entries_left old ≡ option_map (λ others. entry_said e ∷ others) (entries_left new))
    × (bytes_left new < bytes_left old)
GivesEntry old (Some (Err fault)) new = (fault ≡ Memory) × (entries_left new ≡ Some [])
    × (bytes_left new < bytes_left old)

-- an event was the first of those left, or there was none; or an allocation failed, and nothing is left
abbrev pub GivesEvent : (left : List EventView) → Option (Result Event Fault) → (later : List EventView) → Type 0
GivesEvent left None later = (left ≡ []) × (later ≡ [])
GivesEvent left (Some (Ok e)) later = left ≡ event_view e ∷ later
GivesEvent left (Some (Err fault)) later = (fault ≡ Memory) × (later ≡ [])

-- a call of `next`
abbrev pub event_steps : RecordEvents → Option (Result Event Fault) → RecordEvents → Type 0
event_steps e given t = GivesEvent (events_left e) given (events_left t)
