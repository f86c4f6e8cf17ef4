-- Records read back from their bytes.
use Rattle.std.proofs.Common.{◌≡◌, ◌<◌, ◌^◌, ◌++◌, ◌∷◌, ◌*◌, ◌/◌, ℕ, List, [], refl, take, length, arith}
use Rattle.std.specs.List.{flat_map}
use Rattle.std.proofs.lemmas.Nat.{from_le_bytes-to_le_bytes_4}
use Rattle.markdown_records.specs.RecordView.{RecordView, record_bytes, record_in, records_from, records_in}
use Rattle.markdown_records.specs.RecordView.{record_size}

-- all numbers of a record have 32 bits
pub record IsShort (r : RecordView) : Type 0 where
  pub start : r.start < 2 ^ 32
  pub end : r.end < 2 ^ 32
  pub at : r.at < 2 ^ 32
  pub length : r.length < 2 ^ 32
  pub parts : r.parts < 2 ^ 32

abbrev pub AreShort : List RecordView → Type 0
AreShort [] = Unit {0}
AreShort (r ∷ rs) = IsShort r × AreShort rs

-- a record reads back from the first 24 bytes
record_back : (r : RecordView) (rest : List ℕ) → IsShort r → record_in (take record_size (record_bytes r ++ rest)) ≡ r
record_back r rest short = rw (
  from_le_bytes-to_le_bytes_4 r.start short.start,
  from_le_bytes-to_le_bytes_4 r.end short.end,
  from_le_bytes-to_le_bytes_4 r.at short.at,
  from_le_bytes-to_le_bytes_4 r.length short.length,
  from_le_bytes-to_le_bytes_4 r.parts short.parts,
) refl

pub length_records : (rs : List RecordView) → length (flat_map record_bytes rs) ≡ record_size * length rs
length_records [] = refl
length_records (r ∷ rs) = omega (arith, length_records rs)

records_back : (rs : List RecordView) → AreShort rs → records_from (length rs) (flat_map record_bytes rs) ≡ rs
records_back [] short = refl
records_back (r ∷ rs) short = rw (record_back r (flat_map record_bytes rs) short.0, records_back rs short.1) refl

-- records read back from their bytes
pub records_read_back : (rs : List RecordView) → AreShort rs → records_in (flat_map record_bytes rs) ≡ rs
unfolding records_in
records_read_back rs short =
    let count : length (flat_map record_bytes rs) / record_size ≡ length rs = omega (arith, length_records rs) in
    rw count (records_back rs short)
