-- What a call writes of entries, one after another. Only private clauses cite this.
use Rattle.std.specs.Prelude.{◌≡◌, List, IfErr, IfOk, Result}
use Rattle.std.specs.List.{flat_map}
use Rattle.markdown_records.specs.Drafts.{DraftView}
use Rattle.markdown_records.specs.Encoded.{then_drafts}
use Rattle.markdown_records.specs.RecordsOf.{IsRecordRefusal, marked_entries, records_source, sheet_of}
use Rattle.markdown_records.specs.declared.encode.Records.{Records}
use Rattle.markdown_records.specs.declared.fault.RecordFault.{RecordFault}

-- all records so far come before the definitions
pub record IsMarked (r : Records) : Type 0 where
  pub is : marked_entries r ≡ (sheet_of r).count

-- these drafts are written after what was there, or they are refused; and if all records came before the definitions,
-- they do still
pub record WritesEntries {A : Type 0} (old : Records) (ds : List DraftView) (result : Result A RecordFault)
    (new : Records) : Type 0 where
  pub source : records_source new ≡ records_source old
  pub marked : IsMarked old → IfOk result (λ _. IsMarked new)
  pub written : IfOk result (λ _. sheet_of new ≡ then_drafts (records_source old) (sheet_of old) ds)
  pub refused : IfErr result (IsRecordRefusal (records_source old) (sheet_of old) ds)
