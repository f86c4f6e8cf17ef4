-- The merge of events with their ranges is that of the events, with a range for each.
use Rattle.std.proofs.Common.{◌≡◌, ◌⊎◌, ℕ, List, [], ◌∷◌, ◌++◌, map, Ok, Err, Some, None, refl, sym, ap, subst, ◌∙◌}
use Rattle.std.proofs.Common.{inl, inr}
use Rattle.std.specs.List.{flat_map}
use Rattle.std.specs.declared.ops.Range.{Range}
use Rattle.std.proofs.lemmas.List.{map-append}
use Rattle.markdown_base.specs.Event.{EventView, event_view, text}
use Rattle.markdown_base.specs.declared.event.Event.{Event}
use Rattle.markdown_out.specs.HtmlCorrect.{items}
use Rattle.markdown_out.specs.Merge.{Item, PlacedText, text_item, text_of_item, Run, alone, texts, before_runs, runs}
use Rattle.markdown_out.specs.Merge.{last_text, unless_empty, run_items, merged}
use Rattle.markdown_out.specs.MergeNext.{item_view}
use Rattle.markdown_out.specs.OutLaws.{RangedEvent, event_item, item_events, item_ranged, merged_events, merged_ranged}
use Rattle.markdown_out.specs.OutLaws.{ranged_item}
use Rattle.markdown_out.specs.EventRanges.{nowhere, with_range, through_ranges}
use Rattle.markdown_out.proofs.MergeLawsLemmas.{IsText, text_or_none}

-- an item, a Text and a run over another range
abbrev pub moved : {P Q : Type 0} → (P → Q) → Item P → Item Q
moved f (Ok placed) = Ok (placed.0, f placed.1)
moved f (Err fault) = Err fault

abbrev moved_text : {P Q : Type 0} → (P → Q) → PlacedText P → PlacedText Q
moved_text f t = record { bytes = t.bytes; range = f t.range }

abbrev moved_run : {P Q : Type 0} → (P → Q) → Run P → Run Q
moved_run f (alone x) = alone (moved f x)
moved_run f (texts t us) = texts (moved_text f t) (map (moved_text f) us)

-- an item without its range
abbrev unplaced : {P : Type 0} → Item P → Item (Unit {0})
unplaced x = moved (λ range. tt) x

-- merging passes a function of ranges through that keeps what lies between two of them
module _ {P Q : Type 0} (through : P → P → P) (through' : Q → Q → Q) (f : P → Q)
    (keeps : (p q : P) → through' (f p) (f q) ≡ f (through p q)) where
  abbrev items_moved : List (Item P) → List (Item Q)
  items_moved xs = map (moved f) xs

  abbrev runs_moved : List (Run P) → List (Run Q)
  runs_moved rs = map (moved_run f) rs

  -- a list is cut into the same runs
  text-runs : (t : PlacedText P) (rs : List (Run P))
      → before_runs (text_item (moved_text f t)) (Some (moved_text f t)) (runs_moved rs)
      ≡ runs_moved (before_runs (text_item t) (Some t) rs)
  text-runs t [] = refl
  text-runs t (alone x ∷ rs) = refl
  text-runs t (texts u us ∷ rs) = refl

  no_text : (x : Item P) → text_of_item x ≡ None → text_of_item (moved f x) ≡ None
  no_text (Ok (e, p)) none = of_event e none
    where
      of_event : (e : EventView) → text_of_item (Ok (e, p)) ≡ None → text_of_item (moved f (Ok (e, p))) ≡ None
      of_event (text t) none = cc none
      of_event other none = refl
  no_text (Err fault) none = refl

  more-runs : (x : Item P) (rs : List (Run P)) → IsText x ⊎ (text_of_item x ≡ None)
      → before_runs (moved f x) (text_of_item (moved f x)) (runs_moved rs)
      ≡ runs_moved (before_runs x (text_of_item x) rs)
  more-runs x rs (inl is) =
      subst (λ y. before_runs (moved f y) (text_of_item (moved f y)) (runs_moved rs)
      ≡ runs_moved (before_runs y (text_of_item y) rs))
      (sym is.is) (text-runs is.t rs)
  more-runs x rs (inr none) =
      ap (λ o. before_runs (moved f x) o (runs_moved rs)) (no_text x none) ∙ ap (λ o. runs_moved (before_runs x o rs))
      (sym none)

  same-runs : (xs : List (Item P)) → runs (items_moved xs) ≡ runs_moved (runs xs)
  same-runs [] = refl
  same-runs (x ∷ xs) = ap (before_runs (moved f x) (text_of_item (moved f x))) (same-runs xs)
      ∙ more-runs x (runs xs) (text_or_none x)

  -- and each gives the same
  same-bytes : (us : List (PlacedText P)) → flat_map (λ x. x.bytes) (map (moved_text f) us) ≡ flat_map (λ x. x.bytes) us
  same-bytes [] = refl
  same-bytes (u ∷ us) = ap (λ bytes. u.bytes ++ bytes) (same-bytes us)

  same-last : (u : PlacedText P) (us : List (PlacedText P)) → (last_text (moved_text f u) (map (moved_text f) us)).range
      ≡ f (last_text u us).range
  same-last u [] = refl
  same-last u (v ∷ us) = same-last v us

  unless-moved : (bytes : List ℕ) (p : P) → unless_empty bytes (f p) ≡ items_moved (unless_empty bytes p)
  unless-moved [] p = refl
  unless-moved (b ∷ bytes) p = refl

  same-items : (r : Run P) → run_items through' (moved_run f r) ≡ items_moved (run_items through r)
  same-items (alone x) = refl
  same-items (texts t []) = refl
  same-items (texts t (u ∷ us)) =
      let last = (last_text u us).range in
      let bytes = flat_map (λ (x : PlacedText P). x.bytes) (t ∷ u ∷ us) in
      let range : through' (f t.range) (last_text (moved_text f u) (map (moved_text f) us)).range
      ≡ f (through t.range last) = ap (through' (f t.range)) (same-last u us) ∙ keeps t.range last in
      ap (λ bytes. unless_empty bytes (through' (f t.range) (last_text (moved_text f u) (map (moved_text f) us)).range))
      (same-bytes (t ∷ u ∷ us))
      ∙ (ap (unless_empty bytes) range ∙ unless-moved bytes (through t.range last))

  all-items : (rs : List (Run P)) → flat_map (run_items through') (runs_moved rs)
      ≡ items_moved (flat_map (run_items through) rs)
  all-items [] = refl
  all-items (r ∷ rs) =
      ap (λ xs. xs ++ flat_map (run_items through') (runs_moved rs)) (same-items r)
      ∙ ap (λ xs. items_moved (run_items through r) ++ xs) (all-items rs)
      ∙ sym (map-append (moved f) (run_items through r) (flat_map (run_items through) rs))

  pub merged-moved : (xs : List (Item P)) → merged through' (items_moved xs) ≡ items_moved (merged through xs)
  merged-moved xs = ap (flat_map (run_items through')) (same-runs xs) ∙ all-items (runs xs)

-- merging without ranges is merging, and then leaving ranges out
merged-bare : {P : Type 0} (through : P → P → P) (xs : List (Item P)) → merged nowhere (map unplaced xs)
    ≡ map unplaced (merged through xs)
merged-bare through xs = merged-moved through nowhere (λ range. tt) (λ p q. refl) xs

-- the events of items, without their ranges
bare-events : (xs : List (Item (Range ℕ))) → flat_map item_events (map unplaced xs)
    ≡ map (λ (e : RangedEvent). e.0) (flat_map item_ranged xs)
bare-events [] = refl
bare-events (Ok placed ∷ xs) = ap (λ es. placed.0 ∷ es) (bare-events xs)
bare-events (Err fault ∷ xs) = bare-events xs

bare-views : (es : List RangedEvent) → map event_item (map (λ (e : RangedEvent). e.0) es)
    ≡ map unplaced (map ranged_item es)
bare-views [] = refl
bare-views (e ∷ es) = ap (λ xs. event_item e.0 ∷ xs) (bare-views es)

-- the merge of events with their ranges has the events of the merge
pub merged_ranged-events : (es : List RangedEvent) → map (λ (e : RangedEvent). e.0) (merged_ranged es)
    ≡ merged_events (map (λ (e : RangedEvent). e.0) es)
merged_ranged-events es =
    sym (bare-events (merged through_ranges (map ranged_item es)))
    ∙ ap (flat_map item_events) (sym (merged-bare through_ranges (map ranged_item es)))
    ∙ ap (λ xs. flat_map item_events (merged nowhere xs)) (sym (bare-views es))

-- events with their ranges, without the memory that holds their texts
abbrev pub ranged_view : Event × Range ℕ → RangedEvent
ranged_view e = (event_view e.0, e.1)

pub views-ranged : (es : List (Event × Range ℕ)) → map (item_view with_range) (items es)
    ≡ map ranged_item (map ranged_view es)
views-ranged [] = refl
views-ranged (e ∷ es) = ap (λ xs. ranged_item (ranged_view e) ∷ xs) (views-ranged es)

events-ranged : (es : List RangedEvent) → flat_map item_ranged (map ranged_item es) ≡ es
events-ranged [] = refl
events-ranged (e ∷ es) = ap (λ xs. e ∷ xs) (events-ranged es)

-- where a merge of events gave events, these are the merge
pub merges-ranged : (es given : List (Event × Range ℕ))
    → merged through_ranges (map (item_view with_range) (items es)) ≡ map (item_view with_range) (items given)
    → merged_ranged (map ranged_view es) ≡ map ranged_view given
merges-ranged es given e =
    ap (λ xs. flat_map item_ranged (merged through_ranges xs)) (sym (views-ranged es))
    ∙ ap (flat_map item_ranged) (e ∙ views-ranged given) ∙ events-ranged (map ranged_view given)
