-- What calls write, one after another, and why the first or a later one refuses.
use Rattle.std.proofs.Common.{◌≡◌, ℕ, ◌+◌, ◌<◌, ◌≤◌, List, [], ◌∷◌, ◌++◌, length, take, drop, get_or, Result, Ok, Err}
use Rattle.std.proofs.Common.{refl, sym, ap, ap₂, ◌∙◌, inl, inr, ⊎_elim, subst}
use Rattle.std.specs.Bool.{⊤}
use Rattle.std.specs.List.{flat_map}
use Rattle.std.specs.Result.{IsErrAnd}
use Rattle.std.proofs.lemmas.Result.{err_from_is_err_and}
use Rattle.std.proofs.lemmas.List.{take_more, flat_map_more, take-append-drop, take_all}
use Rattle.std.proofs.lemmas.List.Concat.{flat_map-append}
use Rattle.markdown_base.specs.declared.fault.Fault.TheVariants.{Memory}
use Rattle.markdown_records.specs.Drafts.{DraftView}
use Rattle.markdown_records.specs.Encoded.{FitDrafts, Sheet, Spot, placed, record_at, then_draft, then_drafts}
use Rattle.markdown_records.specs.RecordOf.{spot_view}
use Rattle.markdown_records.specs.RecordView.{record_bytes}
use Rattle.markdown_records.specs.RecordsOf.{IsRecordRefusal, Places, Writes, marked_entries, records_source, sheet_of}
use Rattle.markdown_records.specs.declared.draft.SpotHeld.{SpotHeld}
use Rattle.markdown_records.specs.declared.encode.Records.{Records}
use Rattle.markdown_records.specs.declared.fault.RecordFault.{RecordFault}
use Rattle.markdown_records.specs.declared.fault.RecordFault.TheVariants.{Of, TooLong}

pub then_both : (source : List ℕ) (sheet : Sheet) (ds es : List DraftView)
    → then_drafts source sheet (ds ++ es) ≡ then_drafts source (then_drafts source sheet ds) es
then_both source sheet [] es = refl
then_both source sheet (d ∷ ds) es = then_both source (then_draft source sheet d) ds es

pub fit_first : (source : List ℕ) (sheet : Sheet) (ds es : List DraftView) → FitDrafts source sheet (ds ++ es)
    → FitDrafts source sheet ds
fit_first source sheet [] es f = tt
fit_first source sheet (d ∷ ds) es f = (f.0, fit_first source (then_draft source sheet d) ds es f.1)

pub fit_later : (source : List ℕ) (sheet : Sheet) (ds es : List DraftView) → FitDrafts source sheet (ds ++ es)
    → FitDrafts source (then_drafts source sheet ds) es
fit_later source sheet [] es f = f
fit_later source sheet (d ∷ ds) es f = fit_later source (then_draft source sheet d) ds es f.1

-- what is refused is refused also as a part of more
pub refuses_less : (source other : List ℕ) (sheet next : Sheet) (ds es : List DraftView) (fault : RecordFault)
    → (FitDrafts source sheet ds → FitDrafts other next es) → IsRecordRefusal other next es fault
    → IsRecordRefusal source sheet ds fault
refuses_less source other sheet next ds es fault fits =
    ⊎_elim (λ (memory : fault ≡ Of Memory). inl memory) (λ (p : (fault ≡ TooLong) × (FitDrafts other next es → ⊥)).
    inr (p.0, λ f. p.1 (fits f)))

-- the first drafts are refused
pub refused_first : {A B : Type 0} {old new : Records} {ds : List DraftView} {fault : RecordFault}
    {result : Result B RecordFault} (es : List DraftView) → IsErrAnd result (λ y. y ≡ fault)
    → Writes {A = A} old ds (Err fault) new → Writes old (ds ++ es) result new
refused_first {old} {ds} {fault} {result} es is w =
    let p = err_from_is_err_and result is in
    rw (p.1, p.2) (record {
      source = w.source;
      entries = w.entries;
      written = tt;
      refused = refuses_less (records_source old) (records_source old) (sheet_of old) (sheet_of old) (ds ++ es) ds fault
          (fit_first (records_source old) (sheet_of old) ds es) w.refused;
    })

-- drafts are written, and then others
pub writes_then : {A B : Type 0} {old middle new : Records} {ds es : List DraftView} {a : A}
    (result : Result B RecordFault) → Writes old ds (Ok a) middle → Writes middle es result new
    → Writes old (ds ++ es) result new
writes_then {old} {middle} {new} {ds} {es} (Ok b) w v = record {
  source = v.source ∙ w.source;
  entries = v.entries ∙ w.entries;
  written = v.written ∙ ap₂ (λ s h. then_drafts s h es) w.source w.written
      ∙ sym (then_both (records_source old) (sheet_of old) ds es);
  refused = tt;
}
writes_then {old} {middle} {new} {ds} {es} (Err fault) w v = record {
  source = v.source ∙ w.source;
  entries = v.entries ∙ w.entries;
  written = tt;
  refused = refuses_less (records_source old) (records_source middle) (sheet_of old) (sheet_of middle) (ds ++ es) es
      fault (λ f. rw (w.source, w.written) (fit_later (records_source old) (sheet_of old) ds es f)) v.refused;
}

-- ---- a loop over a list, of which each element has drafts

-- the drafts of the first so many are written
pub record WrittenTo {A : Type 0} (drafts_of : A → List DraftView) (old : Records) (xs : List A) (n : ℕ)
    (new : Records) : Type 0 where
  pub writes : Writes {A = ⊤} old (flat_map drafts_of (take n xs)) (Ok tt) new

-- and those of the next one
pub written_more : {A : Type 0} {drafts_of : A → List DraftView} {old middle new : Records} {xs : List A} {n : ℕ}
    (d : A) → n < length xs → WrittenTo drafts_of old xs n middle
    → Writes {A = ⊤} middle (drafts_of (get_or xs n d)) (Ok tt) new → WrittenTo drafts_of old xs (n + 1) new
written_more {drafts_of} {old} {new} {xs} {n} d h p w = record {
  writes = subst (λ ds. Writes {A = ⊤} old ds (Ok tt) new)
      (flat_map_more drafts_of [] (take n xs) (get_or xs n d) ∙ ap (flat_map drafts_of) (sym (take_more xs n d h)))
      (writes_then (Ok tt) p.writes w);
}

pub written_all : {A : Type 0} {drafts_of : A → List DraftView} {old new : Records} {xs : List A} {n : ℕ}
    → length xs ≤ n → WrittenTo drafts_of old xs n new → Writes {A = ⊤} old (flat_map drafts_of xs) (Ok tt) new
written_all {drafts_of} {old} {new} {xs} {n} h p =
    subst (λ ys. Writes {A = ⊤} old (flat_map drafts_of ys) (Ok tt) new) (take_all n xs h) p.writes

-- those of the next one are refused
pub written_refused : {A : Type 0} {drafts_of : A → List DraftView} {old middle new : Records} {xs : List A} {n : ℕ}
    {fault : RecordFault} {result : Result ⊤ RecordFault} (d : A) → n < length xs → WrittenTo drafts_of old xs n middle
    → IsErrAnd result (λ y. y ≡ fault) → Writes {A = ⊤} middle (drafts_of (get_or xs n d)) (Err fault) new
    → Writes old (flat_map drafts_of xs) result new
written_refused {drafts_of} {old} {new} {xs} {n} {fault} {result} d h p is w =
    let more = flat_map drafts_of (drop (n + 1) xs) in
    let whole : (flat_map drafts_of (take n xs) ++ drafts_of (get_or xs n d)) ++ more ≡ flat_map drafts_of xs =
    ap (λ ds. ds ++ more) (flat_map_more drafts_of [] (take n xs) (get_or xs n d)
    ∙ ap (flat_map drafts_of) (sym (take_more xs n d h)))
    ∙ sym (flat_map-append drafts_of (take (n + 1) xs) (drop (n + 1) xs))
    ∙ ap (flat_map drafts_of) (take-append-drop (n + 1) xs) in
    subst (λ ds. Writes old ds result new) whole (refused_first more is (writes_then {B = ⊤} (Err fault) p.writes w))

-- ---- one draft

same_sheet : {n m : ℕ} {xs ys ps qs : List ℕ} → n ≡ m → xs ≡ ys → ps ≡ qs
    → ◌≡◌ {A = Sheet} (record { count = n; records = xs; pool = ps }) (record { count = m; records = ys; pool = qs })
same_sheet count records pool = cc

-- the text has a place, and the record follows the others
pub writes_draft : {old middle new : Records} {spot : SpotHeld} (d : DraftView) → Places old d.wording (Ok spot) middle
    → records_source new ≡ records_source middle → marked_entries new ≡ marked_entries middle
    → (sheet_of new).count ≡ (sheet_of middle).count + 1
    → (sheet_of new).records ≡ (sheet_of middle).records ++ record_bytes (record_at (spot_view spot) d)
    → (sheet_of new).pool ≡ (sheet_of middle).pool → Writes {A = ⊤} old (d ∷ []) (Ok tt) new
writes_draft {old} {middle} {new} {spot} d place source entries count records pool =
    let counted : (sheet_of new).count ≡ (sheet_of old).count + 1 = count ∙ ap (λ (n : ℕ). n + 1) place.count in
    let recorded : (sheet_of new).records ≡ (sheet_of old).records
    ++ record_bytes (placed (records_source old) (length (sheet_of old).pool) d) =
    records ∙ ap₂ (λ (bytes : List ℕ) (s : Spot). bytes ++ record_bytes (record_at s d)) place.records place.spot in
    record {
      source = source ∙ place.source;
      entries = entries ∙ place.entries;
      written = same_sheet counted recorded (pool ∙ place.pool);
      refused = tt;
    }
