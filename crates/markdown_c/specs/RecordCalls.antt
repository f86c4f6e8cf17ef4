-- The calls from C that write and read records: their outcomes.
use Rattle.std.specs.Prelude.{◌≡◌, ◌≢◌, ◌⊎◌, true, false, ℕ, List, [], Some, None, Result, Ok, Err}
use Rattle.std.specs.Str.{IsUtf8}
use Rattle.markdown_base.specs.Event.{EventView}
use Rattle.markdown_base.specs.Source.{source_as}
use Rattle.markdown_c.specs.CallsFromC.{are_known, refusal_of, syntax_by_bits}
use Rattle.markdown_c.specs.declared.readings.Refusal.{Refusal}
use Rattle.markdown_c.specs.declared.readings.Refusal.TheVariants.{NotUtf8, Memory, Depth, UnknownOption, NotRecords}
use Rattle.markdown_c.specs.declared.readings.Refusal.TheVariants.{OverLimit, TooLong}
use Rattle.markdown_defs.specs.Folding.{folded_text}
use Rattle.markdown_records.specs.Decoded.{decoded}
use Rattle.markdown_records.specs.RecordEntry.{Contents}
use Rattle.markdown_records.specs.declared.fault.RecordFault.{RecordFault}
use Rattle.markdown_records.specs.declared.fault.RecordFault.TheVariants as fault
use Rattle.markdown_safe.specs.SafeEvents.{safe_events}
use Rattle.markdown_safe.specs.SafeRules.{SafeRulesView}
use Rattle.markdown_text_records.specs.AnswerTable.{Table, table_of}
use Rattle.markdown_text_records.specs.RecordsHtml.{ReadsTooDeep, IsHtmlOfRecords, IsSafeHtmlOfRecords}
use Rattle.markdown_text_records.specs.TextRecords.{AreRecordsOf, BeginsTooLong}

-- the refusal for an error of records
abbrev pub refusal_of_records : RecordFault → Refusal
refusal_of_records (fault.Of f) = refusal_of f
refusal_of_records fault.TooLong = TooLong
refusal_of_records fault.NotRecords = NotRecords

-- bytes are this table of answers to the questions of a text: the answers that the records of it begin with; no bytes
-- are no answers
abbrev pub IsTable : (text bytes : List ℕ) → Table → Type 0
IsTable text bytes table = ((bytes ≡ []) × (table ≡ []))
    ⊎ ((c : Contents) × (decoded text bytes ≡ Some c) × (table ≡ table_of c.entries))

-- the records of a text whose questions these answers answer, or why there are none
abbrev pub IsRecordsOutcome : (bits : ℕ) → (text answers : List ℕ) → Result (List ℕ) Refusal → Type 0
IsRecordsOutcome bits text answers (Ok bytes) = (are_known bits ≡ true) × IsUtf8 text
    × ((table : Table) × IsTable text answers table × AreRecordsOf (source_as (syntax_by_bits bits) text) table bytes)
IsRecordsOutcome bits text answers (Err UnknownOption) = are_known bits ≡ false
IsRecordsOutcome bits text answers (Err NotUtf8) = IsUtf8 text → ⊥
IsRecordsOutcome bits text answers (Err Memory) = Unit {0}
IsRecordsOutcome bits text answers (Err Depth) = ⊥
IsRecordsOutcome bits text answers (Err NotRecords) = (answers ≢ []) × (decoded text answers ≡ None)
IsRecordsOutcome bits text answers (Err TooLong) = BeginsTooLong (source_as (syntax_by_bits bits) text)
IsRecordsOutcome bits text answers (Err OverLimit) = ⊥

-- the HTML of the events that records say of a text, or why there is none
abbrev pub IsReadOutcome : (IsOf : (text records html : List ℕ) → Type 0) → (as_written : List EventView
    → List EventView)
    → (bits : ℕ) → (text records : List ℕ) → Result (List ℕ) Refusal → Type 0
IsReadOutcome IsOf as_written bits text records (Ok html) =
    (are_known bits ≡ true) × IsUtf8 text × IsOf text records html
IsReadOutcome IsOf as_written bits text records (Err UnknownOption) = are_known bits ≡ false
IsReadOutcome IsOf as_written bits text records (Err NotUtf8) = IsUtf8 text → ⊥
IsReadOutcome IsOf as_written bits text records (Err Memory) = Unit {0}
IsReadOutcome IsOf as_written bits text records (Err Depth) = ReadsTooDeep as_written text records
IsReadOutcome IsOf as_written bits text records (Err NotRecords) = decoded text records ≡ None
IsReadOutcome IsOf as_written bits text records (Err TooLong) = ⊥
IsReadOutcome IsOf as_written bits text records (Err OverLimit) = ⊥

abbrev pub IsRecordsHtmlOutcome : (bits : ℕ) → (text records : List ℕ) → Result (List ℕ) Refusal → Type 0
IsRecordsHtmlOutcome = IsReadOutcome IsHtmlOfRecords (λ events. events)

-- the same, made safe by rules
abbrev pub IsRecordsSafeHtmlOutcome : (rules : SafeRulesView) → (bits : ℕ) → (text records : List ℕ)
    → Result (List ℕ) Refusal → Type 0
IsRecordsSafeHtmlOutcome rules = IsReadOutcome (IsSafeHtmlOfRecords rules) (safe_events rules)

-- the case folding of a label
abbrev pub IsFoldOutcome : (label : List ℕ) → Result (List ℕ) Refusal → Type 0
IsFoldOutcome label (Ok folded) = IsUtf8 label × (folded ≡ folded_text label)
IsFoldOutcome label (Err NotUtf8) = IsUtf8 label → ⊥
IsFoldOutcome label (Err Memory) = Unit {0}
IsFoldOutcome label (Err Depth) = ⊥
IsFoldOutcome label (Err UnknownOption) = ⊥
IsFoldOutcome label (Err NotRecords) = ⊥
IsFoldOutcome label (Err TooLong) = ⊥
IsFoldOutcome label (Err OverLimit) = ⊥
