-- A record, and its 24 bytes; the header before the records, and the whole. Numbers are little-endian.
use Rattle.std.specs.Prelude.{ℕ, ◌+◌, ◌/◌, Bool, true, List, [], ◌∷◌, ◌++◌, ◌&&◌, nat_le, not, zero, suc, length}
use Rattle.std.specs.Prelude.{take, drop}
use Rattle.std.specs.Prelude.{slice_get, slice_index, slice_range, codes, if◌then◌else◌, Option, None, Some}
use Rattle.std.specs.Int.{w32, to_le_bytes, from_le_bytes}
use Rattle.std.specs.Option.{option_map_or}

-- what a record holds: a kind and a detail, numbers of Numbers; a range of the source in bytes; where its text is; how
-- many parts follow it; and a byte that is 0
pub record RecordView : Type 0 where
  pub kind : ℕ
  pub detail : ℕ
  pub place : ℕ
  pub spare : ℕ
  pub start : ℕ
  pub end : ℕ
  pub at : ℕ
  pub length : ℕ
  pub parts : ℕ

-- the places of a text: none; a slice of the source; a slice of the pool, both by offset and length in bytes; and
-- instead of a text a number, of which `at` is the low half and `length` the high one
abbrev pub no_place : ℕ
no_place = 0

abbrev pub in_source : ℕ
in_source = 1

abbrev pub in_pool : ℕ
in_pool = 2

abbrev pub a_number : ℕ
a_number = 3

-- how many bytes a record has, and the header
abbrev pub record_size : ℕ
record_size = 24

-- a number of 32 bits
abbrev pub number_bytes : ℕ → List ℕ
number_bytes n = to_le_bytes w32 n

-- the number in four bytes from an offset on
abbrev pub number_at : List ℕ → ℕ → ℕ
number_at bytes at = from_le_bytes w32 (slice_range bytes at (at + 4))

abbrev pub record_bytes : RecordView → List ℕ
record_bytes r = r.kind ∷ r.detail ∷ r.place ∷ r.spare ∷ number_bytes r.start ++ number_bytes r.end
    ++ number_bytes r.at ++ number_bytes r.length ++ number_bytes r.parts

-- the record in 24 bytes
abbrev pub record_in : List ℕ → RecordView
record_in bytes = record {
  kind = slice_index bytes 0;
  detail = slice_index bytes 1;
  place = slice_index bytes 2;
  spare = slice_index bytes 3;
  start = number_at bytes 4;
  end = number_at bytes 8;
  at = number_at bytes 12;
  length = number_at bytes 16;
  parts = number_at bytes 20;
}

-- so many records, one after another
abbrev pub records_from : ℕ → List ℕ → List RecordView
records_from zero bytes = []
records_from (suc count) bytes = record_in (take record_size bytes) ∷ records_from count (drop record_size bytes)

-- the records of which bytes consist
unfoldable pub records_in : List ℕ → List RecordView
records_in bytes = records_from (length bytes / record_size) bytes

-- the name of the format, its version, and the size of a record
abbrev pub format_bytes : List ℕ
format_bytes = codes "MDR1" ++ 1 ∷ 0 ∷ 24 ∷ 0 ∷ []

-- the header: how many records there are, and how many of them come before the definitions; and how long the pool and
-- the source are
abbrev pub header_bytes : (count entries pool source : ℕ) → List ℕ
header_bytes count entries pool source =
    format_bytes ++ number_bytes count ++ number_bytes entries ++ number_bytes pool ++ number_bytes source

-- whether a character of a text begins at this offset, or the text ends there
abbrev pub is_boundary : (text : List ℕ) → ℕ → Bool
is_boundary text at = nat_le at (length text)
    && option_map_or (λ byte. not (nat_le 128 byte && nat_le byte 191)) (slice_get text at) true

-- the slice of a text from this offset on, of this length, if characters begin and end there
abbrev pub slice_of : (text : List ℕ) → (at count : ℕ) → Option (List ℕ)
slice_of text at count =
    if is_boundary text at && is_boundary text (at + count) then Some (slice_range text at (at + count)) else None
