-- The outline of merged events is that of the events.
use Rattle.std.proofs.Common.{◌≡◌, ◌⊎◌, ℕ, Bool, true, false, not, if◌then◌else◌, List, [], ◌∷◌, ◌++◌, map, Ok, Err}
use Rattle.std.proofs.Common.{Option, Some, None, refl, sym, ap, subst, ◌∙◌, append_assoc, append-nil, inl, inr}
use Rattle.std.specs.Prelude.{is_some}
use Rattle.std.specs.List.{flat_map}
use Rattle.std.specs.declared.ops.Range.{Range}
use Rattle.markdown_base.specs.Event.{EventView, HeadingView, text}
use Rattle.markdown_out.specs.Merge.{Item, PlacedText, text_item, text_of_item, Run, alone, texts, before_runs, runs}
use Rattle.markdown_out.specs.Merge.{last_text, unless_empty, run_items, merged}
use Rattle.markdown_out.specs.EventRanges.{through_ranges}
use Rattle.markdown_out.proofs.MergeLawsLemmas.{IsText, text_or_none}
use Rattle.markdown_outline.specs.Outline.{Ranged, EntryView, heading_entry, opened_heading, ends_heading, text_added}
use Rattle.markdown_outline.specs.Outline.{joined_text, up_to_end, opened_entry, entries_from, entries_of}
use Rattle.markdown_outline.specs.OutlineLaws.{MergingKeepsOutline, merge_items}

abbrev R : Type 0
R = Range ℕ

-- the event with its range that an item is, if it is one
abbrev item_events : Item R → List Ranged
item_events (Ok placed) = placed ∷ []
item_events (Err fault) = []

-- the text that these events add to the heading that they are in
abbrev text_before_end : List Ranged → List ℕ
text_before_end events = joined_text (up_to_end events)

-- two lists have the same outline, inside a heading and outside
record IsSameOutline (xs ys : List Ranged) : Type 0 where
  pub text : text_before_end xs ≡ text_before_end ys
  pub entries : (inside : Bool) → entries_from inside xs ≡ entries_from inside ys

same-refl : (xs : List Ranged) → IsSameOutline xs xs
same-refl xs = record { text = refl; entries = λ inside. refl }

-- so they have after the same event
same-cons : (e : Ranged) (xs ys : List Ranged) → IsSameOutline xs ys → IsSameOutline (e ∷ xs) (e ∷ ys)
same-cons e xs ys same = record { text = by_end (ends_heading e.0); entries = by_place }
  where
    by_end : (ends : Bool) → joined_text (if ends then [] else e ∷ up_to_end xs)
        ≡ joined_text (if ends then [] else e ∷ up_to_end ys)
    by_end true = refl
    by_end false = ap (λ (t : List ℕ). text_added e.0 ++ t) same.text

    by_heading : (o : Option HeadingView) → opened_entry o e.1 xs ++ entries_from (is_some o) xs
        ≡ opened_entry o e.1 ys ++ entries_from (is_some o) ys
    by_heading None = same.entries false
    by_heading (Some h) =
        ap (λ (t : List ℕ). heading_entry h t e.1 ∷ entries_from true xs) same.text
        ∙ ap (λ (es : List EntryView). heading_entry h (text_before_end ys) e.1 ∷ es) (same.entries true)

    by_place : (inside : Bool) → entries_from inside (e ∷ xs) ≡ entries_from inside (e ∷ ys)
    by_place true = same.entries (not (ends_heading e.0))
    by_place false = by_heading (opened_heading e.0)

-- a Text with its range, as an event
abbrev text_event : PlacedText R → Ranged
text_event t = (text t.bytes, t.range)

abbrev bytes_of : List (PlacedText R) → List ℕ
bytes_of us = flat_map (λ (u : PlacedText R). u.bytes) us

-- a run of Texts adds its bytes, and opens and ends nothing
texts-text : (us : List (PlacedText R)) (xs : List Ranged) → text_before_end (map text_event us ++ xs)
    ≡ bytes_of us ++ text_before_end xs
texts-text [] xs = refl
texts-text (u ∷ us) xs =
    ap (λ (t : List ℕ). u.bytes ++ t) (texts-text us xs) ∙ sym (append_assoc u.bytes (bytes_of us) (text_before_end xs))

texts-entries : (us : List (PlacedText R)) (xs : List Ranged) (inside : Bool)
    → entries_from inside (map text_event us ++ xs) ≡ entries_from inside xs
texts-entries [] xs inside = refl
texts-entries (u ∷ us) xs true = texts-entries us xs true
texts-entries (u ∷ us) xs false = texts-entries us xs false

-- and so does the Text that it becomes, or nothing where that is empty
given-text : (bytes : List ℕ) (p : R) (xs : List (Item R))
    → text_before_end (flat_map item_events (unless_empty bytes p ++ xs))
    ≡ bytes ++ text_before_end (flat_map item_events xs)
given-text [] p xs = refl
given-text (b ∷ bytes) p xs = refl

given-entries : (bytes : List ℕ) (p : R) (xs : List (Item R)) (inside : Bool)
    → entries_from inside (flat_map item_events (unless_empty bytes p ++ xs))
    ≡ entries_from inside (flat_map item_events xs)
given-entries [] p xs inside = refl
given-entries (b ∷ bytes) p xs true = refl
given-entries (b ∷ bytes) p xs false = refl

-- the events of a run
abbrev run_events : Run R → List Ranged
run_events (alone x) = item_events x
run_events (texts t us) = map text_event (t ∷ us)

-- so what a run of two Texts or more becomes has the outline of its events
same-run : (t u : PlacedText R) (us : List (PlacedText R)) (given : List (Item R)) (events : List Ranged)
    → IsSameOutline (flat_map item_events given) events
    → IsSameOutline (flat_map item_events (run_items through_ranges (texts t (u ∷ us)) ++ given))
    (run_events (texts t (u ∷ us)) ++ events)
same-run t u us given events rest = record {
  text = given-text bytes p given ∙ ap (λ (t : List ℕ). bytes ++ t) rest.text ∙ sym (texts-text (t ∷ u ∷ us) events);
  entries = λ inside. given-entries bytes p given inside ∙ rest.entries inside
      ∙ sym (texts-entries (t ∷ u ∷ us) events inside);
}
  where
    bytes : List ℕ
    bytes = bytes_of (t ∷ u ∷ us)

    p : R
    p = through_ranges t.range (last_text u us).range

-- what runs become has the outline of their events
same-runs : (rs : List (Run R)) → IsSameOutline (flat_map item_events (flat_map (run_items through_ranges) rs))
    (flat_map run_events rs)
same-runs [] = same-refl []
same-runs (alone (Ok x) ∷ rs) =
    same-cons x (flat_map item_events (flat_map (run_items through_ranges) rs)) (flat_map run_events rs) (same-runs rs)
same-runs (alone (Err fault) ∷ rs) = same-runs rs
same-runs (texts t [] ∷ rs) =
    same-cons (text_event t) (flat_map item_events (flat_map (run_items through_ranges) rs)) (flat_map run_events rs)
    (same-runs rs)
same-runs (texts t (u ∷ us) ∷ rs) = same-run t u us (flat_map (run_items through_ranges) rs) (flat_map run_events rs)
    (same-runs rs)

-- the runs of events hold those events
events-text : (t : PlacedText R) (rs : List (Run R)) → flat_map run_events (before_runs (text_item t) (Some t) rs)
    ≡ text_event t ∷ flat_map run_events rs
events-text t [] = refl
events-text t (alone x ∷ rs) = refl
events-text t (texts u us ∷ rs) = refl

events-more : (x : Item R) (rs : List (Run R)) → IsText x ⊎ (text_of_item x ≡ None)
    → flat_map run_events (before_runs x (text_of_item x) rs) ≡ item_events x ++ flat_map run_events rs
events-more x rs (inl is) =
    subst (λ (y : Item R). flat_map run_events (before_runs y (text_of_item y) rs)
    ≡ item_events y ++ flat_map run_events rs) (sym is.is)
    (events-text is.t rs)
events-more x rs (inr none) = ap (λ (o : Option (PlacedText R)). flat_map run_events (before_runs x o rs)) none

runs_of_events : (events : List Ranged) → flat_map run_events (runs (merge_items events)) ≡ events
runs_of_events [] = refl
runs_of_events (e ∷ events) =
    events-more (Ok e) (runs (merge_items events)) (text_or_none (Ok e))
    ∙ ap (λ (es : List Ranged). e ∷ es) (runs_of_events events)

events_of_items : (events : List Ranged) → flat_map item_events (merge_items events) ≡ events
events_of_items [] = refl
events_of_items (e ∷ events) = ap (λ (es : List Ranged). e ∷ es) (events_of_items events)

-- merging keeps the outline
pub merged_outline : MergingKeepsOutline
merged_outline events given is =
    ap (λ (es : List Ranged). entries_from false es) (sym (events_of_items given))
    ∙ ap (λ (xs : List (Item R)). entries_from false (flat_map item_events xs)) (sym is)
    ∙ (same-runs (runs (merge_items events))).entries false
    ∙ ap (λ (es : List Ranged). entries_from false es) (runs_of_events events)
