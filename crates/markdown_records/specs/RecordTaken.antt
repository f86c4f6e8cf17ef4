-- The first record of bytes, and the bytes after it. Only private clauses cite this.
use Rattle.std.specs.Prelude.{◌≡◌, ◌≤◌, ℕ, List, [], ◌∷◌, Option, MatchOption, length, drop}
use Rattle.std.specs.Borrow.{Bor}
use Rattle.markdown_records.specs.RecordOf.{record_view}
use Rattle.markdown_records.specs.RecordView.{records_in}
use Rattle.markdown_records.specs.declared.record.Record.{Record}

-- the first record of bytes is this one, and these are the bytes after it
pub record IsFirstRecord (bytes : List ℕ) (first : Record) (others : List ℕ) : Type 0 where
  pub records : records_in bytes ≡ record_view first ∷ records_in others
  pub rest : others ≡ drop 24 bytes
  pub size : 24 ≤ length bytes

-- the first record and the bytes after it are taken, if there is one
abbrev pub TakesRecord : (bytes : List ℕ) → Option (Record × Bor (List ℕ)) → Type 0
TakesRecord bytes taken = MatchOption taken (records_in bytes ≡ []) (λ t. IsFirstRecord bytes t.0 t.1.now)
