-- Entries are written one after another.
use Rattle.std.proofs.Common.{◌≡◌, ◌∙◌, ◌++◌, ◌∷◌, ◌+◌, ◌<◌, ◌≤◌, ℕ, List, [], Err, Ok, Result, ap, ap₂, drop, get_or}
use Rattle.std.proofs.Common.{IfOk, length, refl, subst, sym, take}
use Rattle.std.specs.Bool.{⊤}
use Rattle.std.specs.List.{flat_map}
use Rattle.std.specs.Result.{IsErrAnd}
use Rattle.std.proofs.lemmas.List.{flat_map_more, take-append-drop, take_all, take_more}
use Rattle.std.proofs.lemmas.List.Concat.{flat_map-append}
use Rattle.std.proofs.lemmas.Result.{err_from_is_err_and}
use Rattle.markdown_records.specs.Drafts.{DraftView}
use Rattle.markdown_records.specs.Encoded.{then_drafts}
use Rattle.markdown_records.specs.RecordsOf.{WritesEntry, marked_entries, records_source, sheet_of}
use Rattle.markdown_records.specs.declared.encode.Records.{Records}
use Rattle.markdown_records.specs.declared.fault.RecordFault.{RecordFault}
use Rattle.markdown_records.proofs.WritesLemmas.{fit_first, fit_later, refuses_less, then_both}
use Rattle.markdown_text_records.specs.RecordedEntries.{IsMarked, WritesEntries}

-- nothing is written
pub entries_none : {A : Type 0} {r : Records} {a : A} → WritesEntries r [] (Ok a) r
entries_none = record { source = refl; marked = λ m. m; written = refl; refused = tt }

-- one entry is
pub entries_one : {A : Type 0} {old new : Records} {ds : List DraftView} {result : Result A RecordFault}
    → WritesEntry old ds result new → WritesEntries old ds result new
entries_one {old} {new} {ds} {result} w = record {
  source = w.source;
  marked = λ m. by result w.entries;
  written = w.written;
  refused = w.refused;
}
  where
    by : {A : Type 0} (r : Result A RecordFault) → IfOk r (λ _. marked_entries new ≡ (sheet_of new).count)
        → IfOk r (λ _. IsMarked new)
    by (Ok a) is = record { is = is }
    by (Err fault) is = tt

-- the first drafts are refused
pub entries_refused : {A B : Type 0} {old new : Records} {ds : List DraftView} {fault : RecordFault}
    {result : Result B RecordFault} (es : List DraftView) → IsErrAnd result (λ y. y ≡ fault)
    → WritesEntries {A = A} old ds (Err fault) new → WritesEntries old (ds ++ es) result new
entries_refused {old} {ds} {fault} {result} es is w =
    let p = err_from_is_err_and result is in
    rw (p.1, p.2) (record {
      source = w.source;
      marked = λ m. tt;
      written = tt;
      refused = refuses_less (records_source old) (records_source old) (sheet_of old) (sheet_of old) (ds ++ es) ds fault
          (fit_first (records_source old) (sheet_of old) ds es) w.refused;
    })

-- drafts are written, and then others
pub entries_then : {A B : Type 0} {old middle new : Records} {ds es : List DraftView} {a : A}
    (result : Result B RecordFault) → WritesEntries old ds (Ok a) middle → WritesEntries middle es result new
    → WritesEntries old (ds ++ es) result new
entries_then {old} {middle} {new} {ds} {es} (Ok b) w v = record {
  source = v.source ∙ w.source;
  marked = λ m. v.marked (w.marked m);
  written = v.written ∙ ap₂ (λ s h. then_drafts s h es) w.source w.written
      ∙ sym (then_both (records_source old) (sheet_of old) ds es);
  refused = tt;
}
entries_then {old} {middle} {new} {ds} {es} (Err fault) w v = record {
  source = v.source ∙ w.source;
  marked = λ m. tt;
  written = tt;
  refused = refuses_less (records_source old) (records_source middle) (sheet_of old) (sheet_of middle) (ds ++ es) es
      fault (λ f. rw (w.source, w.written) (fit_later (records_source old) (sheet_of old) ds es f)) v.refused;
}

-- the entries of the first of a list are written, of which each element has drafts
pub record EntriesTo {A : Type 0} (drafts_of : A → List DraftView) (old : Records) (xs : List A) (n : ℕ)
    (new : Records) : Type 0 where
  pub writes : WritesEntries {A = ⊤} old (flat_map drafts_of (take n xs)) (Ok tt) new

-- the next one's are
pub entries_more : {A : Type 0} {drafts_of : A → List DraftView} {old middle new : Records} {xs : List A} {n : ℕ}
    (d : A) → n < length xs → EntriesTo drafts_of old xs n middle
    → WritesEntry {A = ⊤} middle (drafts_of (get_or xs n d)) (Ok tt) new → EntriesTo drafts_of old xs (n + 1) new
entries_more {drafts_of} {old} {new} {xs} {n} d h p w = record {
  writes = subst (λ ds. WritesEntries {A = ⊤} old ds (Ok tt) new)
      (flat_map_more drafts_of [] (take n xs) (get_or xs n d) ∙ ap (flat_map drafts_of) (sym (take_more xs n d h)))
      (entries_then (Ok tt) p.writes (entries_one w));
}

pub entries_all : {A : Type 0} {drafts_of : A → List DraftView} {old new : Records} {xs : List A} {n : ℕ}
    → length xs ≤ n → EntriesTo drafts_of old xs n new
    → WritesEntries {A = ⊤} old (flat_map drafts_of xs) (Ok tt) new
entries_all {drafts_of} {old} {new} {xs} {n} h p =
    subst (λ ys. WritesEntries {A = ⊤} old (flat_map drafts_of ys) (Ok tt) new) (take_all n xs h) p.writes

-- the next one's are refused
pub entries_cut : {A : Type 0} {drafts_of : A → List DraftView} {old middle new : Records} {xs : List A} {n : ℕ}
    {fault : RecordFault} {result : Result ⊤ RecordFault} (d : A) → n < length xs → EntriesTo drafts_of old xs n middle
    → IsErrAnd result (λ y. y ≡ fault) → WritesEntry {A = ⊤} middle (drafts_of (get_or xs n d)) (Err fault) new
    → WritesEntries old (flat_map drafts_of xs) result new
entries_cut {drafts_of} {old} {new} {xs} {n} {fault} {result} d h p is w =
    let more = flat_map drafts_of (drop (n + 1) xs) in
    let whole : (flat_map drafts_of (take n xs) ++ drafts_of (get_or xs n d)) ++ more ≡ flat_map drafts_of xs =
    ap (λ ds. ds ++ more) (flat_map_more drafts_of [] (take n xs) (get_or xs n d)
    ∙ ap (flat_map drafts_of) (sym (take_more xs n d h)))
    ∙ sym (flat_map-append drafts_of (take (n + 1) xs) (drop (n + 1) xs))
    ∙ ap (flat_map drafts_of) (take-append-drop (n + 1) xs) in
    subst (λ ds. WritesEntries old ds result new) whole
    (entries_refused more is (entries_then {B = ⊤} (Err fault) p.writes (entries_one w)))
