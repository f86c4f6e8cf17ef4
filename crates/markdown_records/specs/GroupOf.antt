-- A record of the code with the parts after it, and the groups of bytes. Only private clauses cite this.
use Rattle.std.specs.Prelude.{◌≡◌, ◌≤◌, ◌+◌, ℕ, List, [], ◌∷◌, Option, MatchOption, Result, MatchResult, true, false}
use Rattle.std.specs.Prelude.{length, ◌==◌}
use Rattle.std.specs.Borrow.{Bor}
use Rattle.markdown_records.specs.Decoded as whole
use Rattle.markdown_records.specs.Decoded.{are_parts, grouped}
use Rattle.markdown_records.specs.RecordOf.{record_view}
use Rattle.markdown_records.specs.RecordView.{RecordView, records_in}
use Rattle.markdown_records.specs.declared.fault.RecordFault.{RecordFault}
use Rattle.markdown_records.specs.declared.fault.RecordFault.TheVariants.{NotRecords}
use Rattle.markdown_records.specs.declared.groups.Group.{Group}

abbrev pub group_view : Group → whole.Group
group_view g = record { head = record_view g.head; parts = records_in g.parts.now }

-- the groups of bytes
abbrev pub groups_of : List ℕ → List whole.Group
groups_of bytes = (grouped (records_in bytes)).1

-- bytes do not begin with a part
abbrev pub IsWhole : List ℕ → Type 0
IsWhole bytes = (grouped (records_in bytes)).0 ≡ []

-- these are the parts at the head of bytes, and these the bytes after them
pub record SplitsParts (bytes parts others : List ℕ) : Type 0 where
  pub parts_are : (grouped (records_in bytes)).0 ≡ records_in parts
  pub whole : IsWhole others
  pub groups : groups_of bytes ≡ groups_of others
  pub size : length parts + length others ≡ length bytes

-- the first group of bytes is this one, and these are the bytes after it
pub record IsFirstGroup (bytes : List ℕ) (first : Group) (others : List ℕ) : Type 0 where
  pub groups : groups_of bytes ≡ group_view first ∷ groups_of others
  pub whole : IsWhole others
  pub size : length others + 24 ≤ length bytes

-- the first group and the bytes after it are taken, if there is one
abbrev pub TakesGroup : (bytes : List ℕ) → Option (Group × Bor (List ℕ)) → Type 0
TakesGroup bytes taken = MatchOption taken (groups_of bytes ≡ []) (λ t. IsFirstGroup bytes t.0 t.1.now)

-- how many records there are, if each of them has what a part has
abbrev pub CountsParts : List RecordView → Option ℕ → Type 0
CountsParts records counted = MatchOption counted (are_parts records ≡ false)
    (λ count. (are_parts records ≡ true) × (count ≡ length records))

-- bytes do not begin with a part, or there is an error
abbrev pub BeginsWhole : {C : Type 0} → (bytes : List ℕ) → Result C RecordFault → Type 0
BeginsWhole bytes result = MatchResult result (λ _. IsWhole bytes)
    (λ fault. (fault ≡ NotRecords) × (length (grouped (records_in bytes)).0 == 0 ≡ false))
