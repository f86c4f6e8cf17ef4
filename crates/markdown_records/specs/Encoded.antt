-- Records of contents, by definition: drafts, one after another, are given a place for their texts.
use Rattle.std.specs.Prelude.{ℕ, ◌+◌, ◌/◌, ◌%◌, ◌^◌, ◌<◌, Bool, false, List, [], ◌∷◌, ◌++◌, length, if◌then◌else◌}
use Rattle.std.specs.List.{flat_map}
use Rattle.std.specs.Option.{option_map_or}
use Rattle.std.specs.Str.{bytes_eq}
use Rattle.markdown_records.specs.Drafts.{DraftView, Wording, no_text, number_instead, pooled, sought}
use Rattle.markdown_records.specs.Drafts.{definition_drafts, entry_drafts}
use Rattle.markdown_records.specs.RecordEntry.{Contents}
use Rattle.markdown_records.specs.RecordView.{RecordView, a_number, header_bytes, in_pool, in_source, no_place}
use Rattle.markdown_records.specs.RecordView.{record_bytes, slice_of}

-- where a text is
pub record Spot : Type 0 where
  pub place : ℕ
  pub at : ℕ
  pub length : ℕ

-- whether a text stands at this offset of the source
abbrev pub is_found_at : (source : List ℕ) → (at : ℕ) → List ℕ → Bool
is_found_at source at text = option_map_or (λ slice. bytes_eq slice text) (slice_of source at (length text)) false

-- where the text of a draft is, with so many bytes in the pool before it
abbrev pub spot_of : (source : List ℕ) → (pool : ℕ) → Wording → Spot
spot_of source pool no_text = record { place = no_place; at = 0; length = 0 }
spot_of source pool (number_instead n) = record { place = a_number; at = n % 2 ^ 32; length = n / 2 ^ 32 }
spot_of source pool (pooled text) = record { place = in_pool; at = pool; length = length text }
spot_of source pool (sought first second text) =
    if is_found_at source first text then record { place = in_source; at = first; length = length text }
    else if is_found_at source second text then record { place = in_source; at = second; length = length text }
    else record { place = in_pool; at = pool; length = length text }

-- what a draft adds to the pool
abbrev pub pooled_bytes : (source : List ℕ) → Wording → List ℕ
pooled_bytes source no_text = []
pooled_bytes source (number_instead n) = []
pooled_bytes source (pooled text) = text
pooled_bytes source (sought first second text) =
    if is_found_at source first text then [] else if is_found_at source second text then [] else text

-- the record of a draft whose text is here
abbrev pub record_at : Spot → DraftView → RecordView
record_at spot d = record {
  kind = d.kind;
  detail = d.detail;
  place = spot.place;
  spare = 0;
  start = d.range.start;
  end = d.range.end;
  at = spot.at;
  length = spot.length;
  parts = d.parts;
}

abbrev pub placed : (source : List ℕ) → (pool : ℕ) → DraftView → RecordView
placed source pool d = record_at (spot_of source pool d.wording) d

-- what has been written: how many records, their bytes, and the pool
pub record Sheet : Type 0 where
  pub count : ℕ
  pub records : List ℕ
  pub pool : List ℕ

abbrev pub blank : Sheet
blank = record { count = 0; records = []; pool = [] }

-- a draft is written
abbrev pub then_draft : (source : List ℕ) → Sheet → DraftView → Sheet
then_draft source sheet d = record {
  count = sheet.count + 1;
  records = sheet.records ++ record_bytes (placed source (length sheet.pool) d);
  pool = sheet.pool ++ pooled_bytes source d.wording;
}

-- drafts are written, one after another
abbrev pub then_drafts : (source : List ℕ) → Sheet → List DraftView → Sheet
then_drafts source sheet [] = sheet
then_drafts source sheet (d ∷ ds) = then_drafts source (then_draft source sheet d) ds

-- what is written of the entries, and after it of the definitions
abbrev pub entries_sheet : (source : List ℕ) → Contents → Sheet
entries_sheet source c = then_drafts source blank (flat_map entry_drafts c.entries)

abbrev pub whole_sheet : (source : List ℕ) → Contents → Sheet
whole_sheet source c = then_drafts source (entries_sheet source c) (flat_map definition_drafts c.definitions)

-- a sheet of which so many records come before the definitions, as bytes: header, records, pool
abbrev pub sheet_bytes : (source : List ℕ) → (entries : ℕ) → Sheet → List ℕ
sheet_bytes source entries sheet =
    header_bytes sheet.count entries (length sheet.pool) (length source) ++ sheet.records ++ sheet.pool

-- contents as bytes
abbrev pub encoded : (source : List ℕ) → Contents → List ℕ
encoded source c = sheet_bytes source (entries_sheet source c).count (whole_sheet source c)

-- the record of a draft and the count of records have only numbers below 2^32
pub record FitsDraft (source : List ℕ) (sheet : Sheet) (d : DraftView) : Type 0 where
  pub start : d.range.start < 2 ^ 32
  pub end : d.range.end < 2 ^ 32
  pub at : (spot_of source (length sheet.pool) d.wording).at < 2 ^ 32
  pub length : (spot_of source (length sheet.pool) d.wording).length < 2 ^ 32
  pub parts : d.parts < 2 ^ 32
  pub count : sheet.count + 1 < 2 ^ 32

-- those of drafts, one after another
abbrev pub FitDrafts : (source : List ℕ) → Sheet → List DraftView → Type 0
FitDrafts source sheet [] = Unit {0}
FitDrafts source sheet (d ∷ ds) = FitsDraft source sheet d × FitDrafts source (then_draft source sheet d) ds
