-- The ids of merged items are those of the items, merged.
use Rattle.std.proofs.Common.{◌≡◌, ◌⊎◌, ℕ, Bool, true, false, not, if◌then◌else◌, List, [], ◌∷◌, ◌++◌, map, Ok, Err}
use Rattle.std.proofs.Common.{Option, Some, None, refl, sym, ap, subst, ◌∙◌, append_assoc, inl, inr}
use Rattle.std.specs.Prelude.{is_some}
use Rattle.std.specs.List.{flat_map}
use Rattle.std.specs.declared.ops.Range.{Range}
use Rattle.markdown_base.specs.Event.{HeadingView}
use Rattle.markdown_heading_ids.specs.HeadingIds.{Id, event_ids, given_id, id_unless, taken_from_the_start}
use Rattle.markdown_heading_ids.specs.HeadingIds.{with_given, with_ids}
use Rattle.markdown_heading_ids.specs.HeadingItems.{RangedItem, items_with_ids, until_error}
use Rattle.markdown_heading_ids.specs.HeadingRead.{heading_words}
use Rattle.markdown_heading_ids.specs.IdsOfEvents.{MergingKeepsIds}
use Rattle.markdown_heading_ids.proofs.HeadingIdsRunLemmas.{ids_of_all, oks}
use Rattle.markdown_heading_ids.proofs.IdsOfEventsLemmas.{Gets, gets, gets_none, gets_id, made}
use Rattle.markdown_out.specs.EventRanges.{through_ranges}
use Rattle.markdown_out.specs.Merge.{PlacedText, Run, alone, texts, before_runs, last_text, merged, run_items, runs}
use Rattle.markdown_out.specs.Merge.{text_item, text_of_item, unless_empty}
use Rattle.markdown_out.proofs.MergeLawsLemmas.{IsText, text_or_none}
use Rattle.markdown_outline.specs.Outline.{Ranged, ends_heading, joined_text, opened_heading, text_added, up_to_end}
use Rattle.markdown_outline.specs.OutlineLaws.{merge_items}

abbrev R : Type 0
R = Range ℕ

-- the items of a run
abbrev run_list : Run R → List RangedItem
run_list (alone x) = x ∷ []
run_list (texts t us) = map text_item (t ∷ us)

-- what runs become
abbrev become : List (Run R) → List RangedItem
become rs = flat_map (run_items through_ranges) rs

abbrev bytes_of : List (PlacedText R) → List ℕ
bytes_of us = flat_map (λ (u : PlacedText R). u.bytes) us

-- ---- the items of runs

held_text : (t : PlacedText R) (rs : List (Run R)) → flat_map run_list (before_runs (text_item t) (Some t) rs)
    ≡ text_item t ∷ flat_map run_list rs
held_text t [] = refl
held_text t (alone x ∷ rs) = refl
held_text t (texts u us ∷ rs) = refl

held_item : (x : RangedItem) (rs : List (Run R)) → IsText x ⊎ (text_of_item x ≡ None)
    → flat_map run_list (before_runs x (text_of_item x) rs) ≡ x ∷ flat_map run_list rs
held_item x rs (inl is) =
    subst (λ (y : RangedItem). flat_map run_list (before_runs y (text_of_item y) rs) ≡ y ∷ flat_map run_list rs)
    (sym is.is) (held_text is.t rs)
held_item x rs (inr none) = ap (λ (o : Option (PlacedText R)). flat_map run_list (before_runs x o rs)) none

runs_hold : (items : List RangedItem) → flat_map run_list (runs items) ≡ items
runs_hold [] = refl
runs_hold (x ∷ items) =
    held_item x (runs items) (text_or_none x) ∙ ap (λ (xs : List RangedItem). x ∷ xs) (runs_hold items)

-- ---- the text of a heading stays

texts_words : (us : List (PlacedText R)) (xs : List RangedItem)
    → heading_words (map text_item us ++ xs) ≡ bytes_of us ++ heading_words xs
texts_words [] xs = refl
texts_words (u ∷ us) xs =
    ap (λ (t : List ℕ). u.bytes ++ t) (texts_words us xs)
    ∙ sym (append_assoc u.bytes (bytes_of us) (heading_words xs))

given_words : (bytes : List ℕ) (p : R) (xs : List RangedItem)
    → heading_words (unless_empty bytes p ++ xs) ≡ bytes ++ heading_words xs
given_words [] p xs = refl
given_words (b ∷ bytes) p xs = refl

words_after : (e : Ranged) (xs ys : List RangedItem) → heading_words xs ≡ heading_words ys
    → heading_words (Ok e ∷ xs) ≡ heading_words (Ok e ∷ ys)
words_after e xs ys same = by (ends_heading e.0)
  where
    by : (ends : Bool) → joined_text (if ends then [] else e ∷ up_to_end (until_error xs))
        ≡ joined_text (if ends then [] else e ∷ up_to_end (until_error ys))
    by true = refl
    by false = ap (λ (t : List ℕ). text_added e.0 ++ t) same

words_of_runs : (rs : List (Run R)) → heading_words (become rs) ≡ heading_words (flat_map run_list rs)
words_of_runs [] = refl
words_of_runs (alone (Ok e) ∷ rs) = words_after e (become rs) (flat_map run_list rs) (words_of_runs rs)
words_of_runs (alone (Err fault) ∷ rs) = refl
words_of_runs (texts t [] ∷ rs) = ap (λ (w : List ℕ). t.bytes ++ w) (words_of_runs rs)
words_of_runs (texts t (u ∷ us) ∷ rs) =
    given_words (bytes_of (t ∷ u ∷ us)) (through_ranges t.range (last_text u us).range) (become rs)
    ∙ ap (λ (w : List ℕ). bytes_of (t ∷ u ∷ us) ++ w) (words_of_runs rs)
    ∙ sym (texts_words (t ∷ u ∷ us) (flat_map run_list rs))

-- an id depends on the text alone
same_given : (o : Option HeadingView) (taken : List Id) (xs ys : List Ranged)
    → joined_text (up_to_end xs) ≡ joined_text (up_to_end ys) → given_id o taken xs ≡ given_id o taken ys
same_given None taken xs ys same = refl
same_given (Some h) taken xs ys same = ap (λ (w : List ℕ). id_unless h.id taken w) same

-- ---- runs with ids

abbrev given_to : Ranged → (taken : List Id) → List RangedItem → List Id
given_to e taken items = given_id (opened_heading e.0) taken (until_error items)

-- runs, as `items_with_ids` is for items
abbrev runs_with_ids : (inside : Bool) → (taken : List Id) → List (Run R) → List (Run R)
runs_with_ids inside taken [] = []
runs_with_ids inside taken (texts t us ∷ rs) = texts t us ∷ runs_with_ids inside taken rs
runs_with_ids inside taken (alone (Err fault) ∷ rs) = alone (Err fault) ∷ runs_with_ids false taken rs
runs_with_ids true taken (alone (Ok e) ∷ rs) = alone (Ok e) ∷ runs_with_ids (not (ends_heading e.0)) taken rs
runs_with_ids false taken (alone (Ok e) ∷ rs) =
    alone (Ok (with_given (given_to e taken (flat_map run_list rs)) e))
    ∷ runs_with_ids (is_some (opened_heading e.0)) (given_to e taken (flat_map run_list rs) ++ taken) rs

-- a Text joins the runs as before
joins : (t : PlacedText R) (inside : Bool) (taken : List Id) (rs : List (Run R))
    → before_runs (text_item t) (Some t) (runs_with_ids inside taken rs)
    ≡ runs_with_ids inside taken (before_runs (text_item t) (Some t) rs)
joins t inside taken [] = refl
joins t inside taken (texts u us ∷ rs) = refl
joins t inside taken (alone (Err fault) ∷ rs) = refl
joins t true taken (alone (Ok e) ∷ rs) = refl
joins t false taken (alone (Ok e) ∷ rs) = refl

-- an event that is no Text is none with an id
still_no_text : (e : Ranged) {ids : List Id} → Gets e ids → text_of_item (Ok e) ≡ None
    → text_of_item (Ok (with_given ids e)) ≡ None
still_no_text e {ids} (gets_none none has) no_text = rw none no_text
still_no_text e {ids} (gets_id h id is lacks given) no_text =
    let P : Ranged → Type 0 = λ f. text_of_item (Ok f) ≡ None in
    subst P (sym (ap (λ (xs : List Id). with_given xs e) given ∙ made e h id is)) refl

-- the runs of items with ids
runs_of_ids : (inside : Bool) (taken : List Id) (items : List RangedItem)
    → runs (items_with_ids inside taken items) ≡ runs_with_ids inside taken (runs items)
runs_of_ids inside taken [] = refl
runs_of_ids inside taken (Err fault ∷ items) =
    ap (λ (rs : List (Run R)). alone (Err fault) ∷ rs) (runs_of_ids false taken items)
runs_of_ids true taken (Ok e ∷ items) =
    by (text_or_none (Ok e)) (λ (inside : Bool). runs_of_ids inside taken items)
  where
    by : IsText (Ok e) ⊎ (text_of_item (Ok e) ≡ None)
        → ((inside : Bool) → runs (items_with_ids inside taken items) ≡ runs_with_ids inside taken (runs items))
        → runs (items_with_ids true taken (Ok e ∷ items)) ≡ runs_with_ids true taken (runs (Ok e ∷ items))
    by (inl is) rest =
        let P : RangedItem → Type 0 = λ x. runs (items_with_ids true taken (x ∷ items))
        ≡ runs_with_ids true taken (runs (x ∷ items)) in
        subst P (sym is.is)
        (ap (λ (rs : List (Run R)). before_runs (text_item is.t) (Some is.t) rs) (rest true)
        ∙ joins is.t true taken (runs items))
    by (inr none) rest =
        ap (λ (o : Option (PlacedText R)). before_runs (Ok e) o
        (runs (items_with_ids (not (ends_heading e.0)) taken items))) none
        ∙ ap (λ (rs : List (Run R)). alone (Ok e) ∷ rs) (rest (not (ends_heading e.0)))
        ∙ ap (λ (o : Option (PlacedText R)). runs_with_ids true taken (before_runs (Ok e) o (runs items))) (sym none)
runs_of_ids false taken (Ok e ∷ items) =
    by (text_or_none (Ok e)) (λ (inside : Bool) (after : List Id). runs_of_ids inside after items)
  where
    by : IsText (Ok e) ⊎ (text_of_item (Ok e) ≡ None)
        → ((inside : Bool) (after : List Id) → runs (items_with_ids inside after items)
        ≡ runs_with_ids inside after (runs items))
        → runs (items_with_ids false taken (Ok e ∷ items)) ≡ runs_with_ids false taken (runs (Ok e ∷ items))
    by (inl is) rest =
        let P : RangedItem → Type 0 = λ x. runs (items_with_ids false taken (x ∷ items))
        ≡ runs_with_ids false taken (runs (x ∷ items)) in
        subst P (sym is.is)
        (ap (λ (rs : List (Run R)). before_runs (text_item is.t) (Some is.t) rs) (rest false taken)
        ∙ joins is.t false taken (runs items))
    by (inr none) rest =
        ap (λ (o : Option (PlacedText R)). before_runs (Ok (with_given (given_to e taken items) e)) o
        (runs (items_with_ids (is_some (opened_heading e.0)) (given_to e taken items ++ taken) items)))
        (still_no_text e (gets e taken (until_error items)) none)
        ∙ ap (λ (rs : List (Run R)). alone (Ok (with_given (given_to e taken items) e)) ∷ rs)
        (rest (is_some (opened_heading e.0)) (given_to e taken items ++ taken))
        ∙ ap (λ (xs : List RangedItem). alone (Ok (with_given (given_to e taken xs) e))
        ∷ runs_with_ids (is_some (opened_heading e.0)) (given_to e taken xs ++ taken) (runs items))
        (sym (runs_hold items))
        ∙ ap (λ (o : Option (PlacedText R)). runs_with_ids false taken (before_runs (Ok e) o (runs items))) (sym none)

-- what a run of Texts becomes passes
texts_pass : (bytes : List ℕ) (p : R) (inside : Bool) (taken : List Id) (xs : List RangedItem)
    → items_with_ids inside taken (unless_empty bytes p ++ xs) ≡ unless_empty bytes p ++ items_with_ids inside taken xs
texts_pass [] p inside taken xs = refl
texts_pass (b ∷ bytes) p true taken xs = refl
texts_pass (b ∷ bytes) p false taken xs = refl

-- and so do runs
runs_pass : (inside : Bool) (taken : List Id) (rs : List (Run R))
    → become (runs_with_ids inside taken rs) ≡ items_with_ids inside taken (become rs)
runs_pass inside taken [] = refl
runs_pass true taken (texts t [] ∷ rs) = ap (λ (xs : List RangedItem). text_item t ∷ xs) (runs_pass true taken rs)
runs_pass false taken (texts t [] ∷ rs) = ap (λ (xs : List RangedItem). text_item t ∷ xs) (runs_pass false taken rs)
runs_pass inside taken (texts t (u ∷ us) ∷ rs) =
    let bytes = bytes_of (t ∷ u ∷ us) in
    let p = through_ranges t.range (last_text u us).range in
    ap (λ (xs : List RangedItem). unless_empty bytes p ++ xs) (runs_pass inside taken rs)
    ∙ sym (texts_pass bytes p inside taken (become rs))
runs_pass inside taken (alone (Err fault) ∷ rs) =
    ap (λ (xs : List RangedItem). Err fault ∷ xs) (runs_pass false taken rs)
runs_pass true taken (alone (Ok e) ∷ rs) =
    ap (λ (xs : List RangedItem). Ok e ∷ xs) (runs_pass (not (ends_heading e.0)) taken rs)
runs_pass false taken (alone (Ok e) ∷ rs) =
    let same = same_given (opened_heading e.0) taken (until_error (flat_map run_list rs)) (until_error (become rs))
    (sym (words_of_runs rs)) in
    ap (λ (ids : List Id). Ok (with_given ids e)
    ∷ become (runs_with_ids (is_some (opened_heading e.0)) (ids ++ taken) rs)) same
    ∙ ap (λ (xs : List RangedItem). Ok (with_given (given_to e taken (become rs)) e) ∷ xs)
    (runs_pass (is_some (opened_heading e.0)) (given_to e taken (become rs) ++ taken) rs)

-- the merge of items with ids is the merge with ids
pub merged_ids : (inside : Bool) (taken : List Id) (items : List RangedItem)
    → merged through_ranges (items_with_ids inside taken items)
    ≡ items_with_ids inside taken (merged through_ranges items)
merged_ids inside taken items =
    ap (λ (rs : List (Run R)). become rs) (runs_of_ids inside taken items) ∙ runs_pass inside taken (runs items)

-- ---- what is taken from the start

abbrev item_ids : RangedItem → List Id
item_ids (Ok e) = event_ids e.0
item_ids (Err fault) = []

texts_ids : (us : List (PlacedText R)) (xs : List RangedItem)
    → flat_map item_ids (map text_item us ++ xs) ≡ flat_map item_ids xs
texts_ids [] xs = refl
texts_ids (u ∷ us) xs = texts_ids us xs

given_ids : (bytes : List ℕ) (p : R) (xs : List RangedItem)
    → flat_map item_ids (unless_empty bytes p ++ xs) ≡ flat_map item_ids xs
given_ids [] p xs = refl
given_ids (b ∷ bytes) p xs = refl

ids_of_runs : (rs : List (Run R)) → flat_map item_ids (become rs) ≡ flat_map item_ids (flat_map run_list rs)
ids_of_runs [] = refl
ids_of_runs (alone x ∷ rs) = ap (λ (ids : List Id). item_ids x ++ ids) (ids_of_runs rs)
ids_of_runs (texts t [] ∷ rs) = ids_of_runs rs
ids_of_runs (texts t (u ∷ us) ∷ rs) =
    given_ids (bytes_of (t ∷ u ∷ us)) (through_ranges t.range (last_text u us).range) (become rs)
    ∙ ids_of_runs rs
    ∙ sym (texts_ids (t ∷ u ∷ us) (flat_map run_list rs))

ids_of_oks : (events : List Ranged) → flat_map item_ids (oks events)
    ≡ flat_map (λ (e : Ranged). event_ids e.0) events
ids_of_oks [] = refl
ids_of_oks (e ∷ events) = ap (λ (ids : List Id). event_ids e.0 ++ ids) (ids_of_oks events)

-- merging changes nothing of it
same_taken : (events given : List Ranged) → merged through_ranges (merge_items events) ≡ merge_items given
    → taken_from_the_start given ≡ taken_from_the_start events
same_taken events given is = ap (λ (ids : List Id). [] ∷ ids)
    (sym (ids_of_oks given)
    ∙ ap (λ (xs : List RangedItem). flat_map item_ids xs) (sym is)
    ∙ ids_of_runs (runs (oks events))
    ∙ ap (λ (xs : List RangedItem). flat_map item_ids xs) (runs_hold (oks events))
    ∙ ids_of_oks events)

pub merging_keeps_ids : MergingKeepsIds
merging_keeps_ids events given is =
    let taken = taken_from_the_start events in
    ap (λ (xs : List RangedItem). merged through_ranges xs) (sym (ids_of_all taken events))
    ∙ merged_ids false taken (oks events)
    ∙ ap (items_with_ids false taken) is
    ∙ ids_of_all taken given
    ∙ ap (λ (t : List Id). oks (with_ids t given)) (sym (same_taken events given is))
