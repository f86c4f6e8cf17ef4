-- What drafts leave on a sheet.
use Rattle.std.proofs.Common.{◌≡◌, ◌<◌, ◌^◌, ◌++◌, ◌∙◌, ◌∷◌, ◌+◌, ℕ, List, [], ap, sym, refl, length, arith, append-nil}
use Rattle.std.proofs.Common.{append_assoc}
use Rattle.std.specs.List.{flat_map}
use Rattle.markdown_records.specs.Drafts.{DraftView}
use Rattle.markdown_records.specs.Encoded.{FitDrafts, Sheet, placed, pooled_bytes, then_draft, then_drafts}
use Rattle.markdown_records.specs.RecordView.{RecordView, record_bytes}
use Rattle.markdown_records.proofs.BytesReadBackLemmas.{AreShort}

-- the records of drafts that are written on a sheet
abbrev pub records_of : (source : List ℕ) → Sheet → List DraftView → List RecordView
records_of source sheet [] = []
records_of source sheet (d ∷ ds) =
    placed source (length sheet.pool) d ∷ records_of source (then_draft source sheet d) ds

-- what they add to the pool
abbrev pub pooled_by : (source : List ℕ) → List DraftView → List ℕ
pooled_by source [] = []
pooled_by source (d ∷ ds) = pooled_bytes source d.wording ++ pooled_by source ds

pub records_written : (source : List ℕ) (sheet : Sheet) (ds : List DraftView)
    → (then_drafts source sheet ds).records ≡ sheet.records ++ flat_map record_bytes (records_of source sheet ds)
records_written source sheet [] = sym (append-nil sheet.records)
records_written source sheet (d ∷ ds) = records_written source (then_draft source sheet d) ds
    ∙ append_assoc sheet.records (record_bytes (placed source (length sheet.pool) d))
    (flat_map record_bytes (records_of source (then_draft source sheet d) ds))

pub pool_written : (source : List ℕ) (sheet : Sheet) (ds : List DraftView)
    → (then_drafts source sheet ds).pool ≡ sheet.pool ++ pooled_by source ds
pool_written source sheet [] = sym (append-nil sheet.pool)
pool_written source sheet (d ∷ ds) = pool_written source (then_draft source sheet d) ds
    ∙ append_assoc sheet.pool (pooled_bytes source d.wording) (pooled_by source ds)

pub count_written : (source : List ℕ) (sheet : Sheet) (ds : List DraftView)
    → (then_drafts source sheet ds).count ≡ sheet.count + length ds
count_written source sheet [] = omega arith
count_written source sheet (d ∷ ds) = omega (arith, count_written source (then_draft source sheet d) ds)

pub length_records_of : (source : List ℕ) (sheet : Sheet) (ds : List DraftView)
    → length (records_of source sheet ds) ≡ length ds
length_records_of source sheet [] = refl
length_records_of source sheet (d ∷ ds) = omega (arith, length_records_of source (then_draft source sheet d) ds)

pub records_after : (source : List ℕ) (sheet : Sheet) (first second : List DraftView)
    → records_of source sheet (first ++ second)
    ≡ records_of source sheet first ++ records_of source (then_drafts source sheet first) second
records_after source sheet [] second = refl
records_after source sheet (d ∷ first) second =
    ap (λ rs. placed source (length sheet.pool) d ∷ rs) (records_after source (then_draft source sheet d) first second)

-- records of drafts that fit have numbers of 32 bits, and so has their count
pub fit_short : (source : List ℕ) (sheet : Sheet) (ds : List DraftView) → FitDrafts source sheet ds
    → AreShort (records_of source sheet ds)
fit_short source sheet [] fit = tt
fit_short source sheet (d ∷ ds) fit = (
  record {
    start = fit.0.start;
    end = fit.0.end;
    at = fit.0.at;
    length = fit.0.length;
    parts = fit.0.parts;
  },
  fit_short source (then_draft source sheet d) ds fit.1,
)

pub fit_count : (source : List ℕ) (sheet : Sheet) (ds : List DraftView) → FitDrafts source sheet ds
    → sheet.count < 2 ^ 32 → (then_drafts source sheet ds).count < 2 ^ 32
fit_count source sheet [] fit few = few
fit_count source sheet (d ∷ ds) fit few = fit_count source (then_draft source sheet d) ds fit.1 fit.0.count
