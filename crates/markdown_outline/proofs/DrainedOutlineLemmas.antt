-- The outline of what a merge returns is that of what its iterator returns.
use Rattle.std.proofs.Common.{◌≡◌, ◌⊎◌, ℕ, Bool, true, false, ◌||◌, List, [], ◌∷◌, ◌++◌, map, Ok, Err, Result, Option}
use Rattle.std.proofs.Common.{Some, None, refl, sym, ap, subst, ◌∙◌, inl, inr}
use Rattle.std.specs.Bool.{MatchBool}
use Rattle.std.specs.List.{flat_map, list_any}
use Rattle.std.specs.Iterator.{Count, Drains, Yields}
use Rattle.std.specs.declared.ops.Range.{Range}
use Rattle.markdown_base.specs.declared.event.Event.{Event}
use Rattle.markdown_base.specs.declared.fault.Fault.{Fault}
use Rattle.markdown_base.specs.declared.fault.Fault.TheVariants.{Memory}
use Rattle.markdown_out.specs.Merge.{Item, PlacedText, text_item, text_of_item, Run, alone, texts, before_runs, runs}
use Rattle.markdown_out.specs.Merge.{last_text, unless_empty, run_items, merged}
use Rattle.markdown_out.specs.MergeNext.{MergeState, PassesOn, Refuses, formed_view, item_view}
use Rattle.markdown_out.specs.OutLaws.{StaysEnded, IsNewMerge, merge_steps}
use Rattle.markdown_out.specs.EventRanges.{with_range, through_ranges}
use Rattle.markdown_out.specs.TextForms.{Formed, boxed_through}
use Rattle.markdown_out.proofs.DrainedMergeLemmas.{gives_the_merge}
use Rattle.markdown_out.proofs.FormedMergeLemmas.{all_without}
use Rattle.markdown_out.proofs.MergeLawsLemmas.{IsText, text_or_none}
use Rattle.markdown_outline.specs.Outline.{Ranged, EntryView, entries_of}
use Rattle.markdown_outline.specs.OutlineLaws.{merge_items}
use Rattle.markdown_outline.specs.OutlineRead.{event_items, entries_of_events, ranged_view, IsOutlineOfAll}
use Rattle.markdown_outline.proofs.MergedOutlineLemmas.{merged_outline}

abbrev R : Type 0
R = Range ℕ

abbrev Raw : Type 0
Raw = Result (Event × R) Fault

abbrev view : Raw → Item R
view = item_view with_range

-- ---- the merge of items has an error where the items have one

abbrev is_error : Item R → Bool
is_error (Ok x) = false
is_error (Err fault) = true

abbrev run_error : Run R → Bool
run_error (alone x) = is_error x
run_error (texts t us) = false

error-text : (t : PlacedText R) (rs : List (Run R)) → list_any run_error (before_runs (text_item t) (Some t) rs)
    ≡ list_any run_error rs
error-text t [] = refl
error-text t (alone x ∷ rs) = refl
error-text t (texts u us ∷ rs) = refl

error-before : (x : Item R) (rs : List (Run R)) → IsText x ⊎ (text_of_item x ≡ None)
    → list_any run_error (before_runs x (text_of_item x) rs) ≡ (is_error x || list_any run_error rs)
error-before x rs (inl is) =
    subst (λ (y : Item R). list_any run_error (before_runs y (text_of_item y) rs)
    ≡ (is_error y || list_any run_error rs)) (sym is.is)
    (error-text is.t rs)
error-before x rs (inr none) = ap (λ (o : Option (PlacedText R)). list_any run_error (before_runs x o rs)) none

error-runs : (xs : List (Item R)) → list_any run_error (runs xs) ≡ list_any is_error xs
error-runs [] = refl
error-runs (x ∷ xs) = error-before x (runs xs) (text_or_none x) ∙ ap (λ (b : Bool). is_error x || b) (error-runs xs)

error-unless : (bytes : List ℕ) (p : R) (xs : List (Item R)) → list_any is_error (unless_empty bytes p ++ xs)
    ≡ list_any is_error xs
error-unless [] p xs = refl
error-unless (b ∷ bytes) p xs = refl

error-given : (rs : List (Run R)) → list_any is_error (flat_map (run_items through_ranges) rs) ≡ list_any run_error rs
error-given [] = refl
error-given (alone x ∷ rs) = ap (λ (b : Bool). is_error x || b) (error-given rs)
error-given (texts t [] ∷ rs) = error-given rs
error-given (texts t (u ∷ us) ∷ rs) =
    error-unless (flat_map (λ (x : PlacedText R). x.bytes) (t ∷ u ∷ us)) (through_ranges t.range (last_text u us).range)
    (flat_map (run_items through_ranges) rs)
    ∙ error-given rs

error-merged : (xs : List (Item R)) → list_any is_error (merged through_ranges xs) ≡ list_any is_error xs
error-merged xs = error-given (runs xs) ∙ error-runs xs

error-events : (es : List (Event × R)) → list_any is_error (map view (event_items es)) ≡ false
error-events [] = refl
error-events (e ∷ es) = error-events es

views-items : (es : List (Event × R)) → map view (event_items es) ≡ merge_items (map ranged_view es)
views-items [] = refl
views-items (e ∷ es) = ap (λ (xs : List (Item R)). Ok (ranged_view e) ∷ xs) (views-items es)

-- items of which none is an error are events
record AreEvents (xs : List Raw) : Type 0 where
  pub events : List (Event × R)
  pub are : xs ≡ event_items events

are-events : (xs : List Raw) → list_any is_error (map view xs) ≡ false → AreEvents xs
are-events [] h = record { events = []; are = refl }
are-events (Ok e ∷ xs) h =
    let rest = are-events xs h in record { events = e ∷ rest.events; are = ap (λ (ys : List Raw). Ok e ∷ ys) rest.are }
are-events (Err fault ∷ xs) h = cc h

-- ---- the calls

module _ {S M : Type 0} (steps : S → Option Raw → S → Type 0) (can : S → Type 0) (rest : S → Count)
    (state : M → MergeState S (Formed R)) where
  abbrev formed : Raw → Item (Formed R)
  formed = formed_view with_range

  abbrev boxed : Formed R → Formed R → Formed R
  boxed = boxed_through through_ranges

  abbrev calls : M → Option Raw → M → Type 0
  calls = merge_steps boxed formed steps can rest state

  -- where a merge that is not over returns no error, it continues
  goes-on : (m t : M) (r : Option Raw) → (r ≡ Some (Err Memory) → ⊥) → (state m).over ≡ false → calls m r t
      → (state t).over ≡ false
  goes-on m t r passes o c = by_kind (subst (λ (b : Bool). MatchBool b ((r ≡ None) × ((state t).over ≡ true))
      (PassesOn boxed formed steps (state m) r (state t) ⊎ Refuses steps (state m) r (state t)))
      o c.gives)
    where
      by_kind : PassesOn boxed formed steps (state m) r (state t) ⊎ Refuses steps (state m) r (state t)
          → (state t).over ≡ false
      by_kind (inl p) = p.goes_on
      by_kind (inr q) = absurd (passes q.0)

  no-error : (e : Event × R) → Some (Ok e) ≡ Some (Err Memory) → ⊥
  no-error e h = cc

  events-go-on : (m t : M) (es : List (Event × R)) → (state m).over ≡ false → Yields calls m (event_items es) t
      → (state t).over ≡ false
  events-go-on m t [] o y = subst (λ (k : M). (state k).over ≡ false) y o
  events-go-on m t (e ∷ es) o y = events-go-on y.0 t es (goes-on m y.0 (Some (Ok e)) (no-error e) o y.1) y.2

  none-error : {A : Type 0} (x : A) → None ≡ Some x → ⊥
  none-error {A} x h = cc

  -- the outline of a new merge is that of its iterator
  pub outline-of_merge : (m : M) → StaysEnded steps (state m).iter → IsNewMerge (state m) → (entries : List EntryView)
      → IsOutlineOfAll calls m entries → IsOutlineOfAll steps (state m).iter entries
  outline-of_merge m ends begun entries r =
      let es = r.events in
      let t = r.read.1.0 in
      let u = r.read.0 in
      let before = events-go-on m t es begun.goes_on r.read.1.1 in
      let last = goes-on t u None (none-error (Err Memory)) before r.read.1.2 in
      let g = all_without through_ranges with_range steps (state m).iter (event_items es)
      ((gives_the_merge boxed formed steps can rest state m ends begun).all (event_items es) t u
      r.read.1.1 r.read.1.2 last) in
      let clean : list_any is_error (map view g.all) ≡ false =
      sym (error-merged (map view g.all)) ∙ ap (list_any is_error) g.merges ∙ error-events es in
      let read = are-events g.all clean in
      let merges : merged through_ranges (merge_items (map ranged_view read.events))
      ≡ merge_items (map ranged_view es) =
      ap (merged through_ranges) (sym (ap (map view) read.are ∙ views-items read.events)) ∙ g.merges ∙ views-items es in
      record {
        events = read.events;
        read = subst (λ (xs : List Raw). Drains steps (state m).iter xs) read.are g.read;
        are = r.are ∙ merged_outline (map ranged_view read.events) (map ranged_view es) merges;
      }
