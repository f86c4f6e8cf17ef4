-- What `Records` has written, and what a call writes or why it refuses. Only private fields are behind these names.
use Rattle.std.specs.Prelude.{◌≡◌, ◌⊎◌, ◌<◌, ◌≤◌, ◌^◌, ◌++◌, ℕ, List, length, max, string_bytes, IfOk, IfErr, Result}
use Rattle.std.specs.Prelude.{Vec}
use Rattle.std.specs.declared.alloc.Global.{Global}
use Rattle.std.specs.declared.ops.Range.{Range}
use Rattle.markdown_base.specs.declared.fault.Fault.TheVariants.{Memory}
use Rattle.markdown_records.specs.Drafts.{DraftView, Wording}
use Rattle.markdown_records.specs.Encoded.{FitDrafts, Sheet, Spot, pooled_bytes, sheet_bytes, spot_of, then_drafts}
use Rattle.markdown_records.specs.RecordOf.{spot_view}
use Rattle.markdown_records.specs.declared.draft.SpotHeld.{SpotHeld}
use Rattle.markdown_records.specs.declared.encode.Records.{Records}
use Rattle.markdown_records.specs.declared.fault.RecordFault.{RecordFault}
use Rattle.markdown_records.specs.declared.fault.RecordFault.TheVariants.{Of, TooLong}

-- the text whose events are written
abbrev pub records_source : Records → List ℕ
records_source r = r.source.now

-- what has been written
abbrev pub sheet_of : Records → Sheet
sheet_of r = record { count = r.count; records = r.records.items; pool = string_bytes r.pool }

-- how many of the records come before the definitions
abbrev pub marked_entries : Records → ℕ
marked_entries r = r.entries

-- drafts are not written for this reason: an allocation failed, or a number among them is 2^32 or greater
abbrev pub IsRecordRefusal : (source : List ℕ) → Sheet → List DraftView → RecordFault → Type 0
IsRecordRefusal source sheet ds fault =
    (fault ≡ Of Memory) ⊎ ((fault ≡ TooLong) × (FitDrafts source sheet ds → ⊥))

-- a text has no place for this reason: an allocation failed, or its offset or its length is 2^32 or greater
abbrev pub IsNoPlace : Spot → RecordFault → Type 0
IsNoPlace spot fault =
    (fault ≡ Of Memory) ⊎ ((fault ≡ TooLong) × (2 ^ 32 ≤ max spot.at spot.length))

-- both ends of a range are below 2^32
pub record IsShortRange (range : Range ℕ) : Type 0 where
  pub start : range.start < 2 ^ 32
  pub end : range.end < 2 ^ 32

-- these drafts are written after what was there, or they are refused
pub record Writes {A : Type 0} (old : Records) (ds : List DraftView) (result : Result A RecordFault)
    (new : Records) : Type 0 where
  pub source : records_source new ≡ records_source old
  pub entries : marked_entries new ≡ marked_entries old
  pub written : IfOk result (λ _. sheet_of new ≡ then_drafts (records_source old) (sheet_of old) ds)
  pub refused : IfErr result (IsRecordRefusal (records_source old) (sheet_of old) ds)

-- the same for drafts of what comes before the definitions
pub record WritesEntry {A : Type 0} (old : Records) (ds : List DraftView) (result : Result A RecordFault)
    (new : Records) : Type 0 where
  pub source : records_source new ≡ records_source old
  pub entries : IfOk result (λ _. marked_entries new ≡ (sheet_of new).count)
  pub written : IfOk result (λ _. sheet_of new ≡ then_drafts (records_source old) (sheet_of old) ds)
  pub refused : IfErr result (IsRecordRefusal (records_source old) (sheet_of old) ds)

-- where the text of a draft is, of which the pool has grown, or why it has no place
pub record Places (old : Records) (wording : Wording) (result : Result SpotHeld RecordFault)
    (new : Records) : Type 0 where
  pub source : records_source new ≡ records_source old
  pub entries : marked_entries new ≡ marked_entries old
  pub count : (sheet_of new).count ≡ (sheet_of old).count
  pub records : (sheet_of new).records ≡ (sheet_of old).records
  pub pool : IfOk result (λ _. (sheet_of new).pool ≡ (sheet_of old).pool ++ pooled_bytes (records_source old) wording)
  pub spot : IfOk result (λ spot. spot_view spot ≡ spot_of (records_source old) (length (sheet_of old).pool) wording)
  pub refused : IfErr result (IsNoPlace (spot_of (records_source old) (length (sheet_of old).pool) wording))

-- the whole is the bytes of the sheet, or there are none: an allocation failed, or the text or the pool is too long
pub record Finishes (old : Records) (result : Result (Vec ℕ Global) RecordFault) : Type 0 where
  pub whole : IfOk result (λ bytes. bytes.items ≡ sheet_bytes (records_source old) (marked_entries old) (sheet_of old))
  pub refused : IfErr result (λ fault. (fault ≡ Of Memory)
      ⊎ ((fault ≡ TooLong) × (2 ^ 32 ≤ max (length (records_source old)) (length (sheet_of old).pool))))
