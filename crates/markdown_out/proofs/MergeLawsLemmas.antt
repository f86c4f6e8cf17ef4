-- The laws of the merge: runs are maximal, so that no two merged Texts are neighbours.
use Rattle.std.proofs.Common.{◌≡◌, ◌⊎◌, ℕ, List, [], ◌∷◌, ◌++◌, Ok, Err, Some, None, refl, sym, ap, subst, ◌∙◌, inl}
use Rattle.std.proofs.Common.{inr}
use Rattle.std.specs.List.{flat_map}
use Rattle.markdown_base.specs.Event.{text, start, end, code, inline_math, display_math, html, inline_html}
use Rattle.markdown_base.specs.Event.{footnote_reference, soft_break, hard_break, rule, task_list_marker}
use Rattle.markdown_out.specs.Merge.{Item, PlacedText, text_item, text_of_item, Run, alone, texts, before_runs, runs}
use Rattle.markdown_out.specs.Merge.{last_text, unless_empty, run_items, merged}
use Rattle.markdown_out.specs.OutLaws.{AreApart, HasNoNeighbours}
use Rattle.markdown_out.proofs.MergeLemmas.{merged-alone, merged-one, merged-lone_text}

-- an item is a Text, or it is not
pub record IsText {P : Type 0} (x : Item P) : Type 0 where
  pub t : PlacedText P
  pub is : x ≡ text_item t

pub text_or_none : {P : Type 0} (x : Item P) → IsText x ⊎ (text_of_item x ≡ None)
text_or_none (Ok (text t, p)) = inl (record { t = record { bytes = t; range = p }; is = refl })
text_or_none (Ok (start o, p)) = inr refl
text_or_none (Ok (end c, p)) = inr refl
text_or_none (Ok (code t, p)) = inr refl
text_or_none (Ok (inline_math t, p)) = inr refl
text_or_none (Ok (display_math t, p)) = inr refl
text_or_none (Ok (html t, p)) = inr refl
text_or_none (Ok (inline_html t, p)) = inr refl
text_or_none (Ok (footnote_reference n, p)) = inr refl
text_or_none (Ok (soft_break, p)) = inr refl
text_or_none (Ok (hard_break, p)) = inr refl
text_or_none (Ok (rule, p)) = inr refl
text_or_none (Ok (task_list_marker b, p)) = inr refl
text_or_none (Err fault) = inr refl

-- no run of Texts follows another, and an item alone is no Text
abbrev pub AreMaximal : {P : Type 0} → List (Run P) → Type 0
AreMaximal [] = Unit {0}
AreMaximal (alone x ∷ rs) = (text_of_item x ≡ None) × AreMaximal rs
AreMaximal (texts t us ∷ []) = Unit {0}
AreMaximal (texts t us ∷ texts v vs ∷ rs) = ⊥
AreMaximal (texts t us ∷ alone x ∷ rs) = AreMaximal (alone x ∷ rs)

-- a longer run of Texts is maximal too
maximal-longer : {P : Type 0} (t u : PlacedText P) (us : List (PlacedText P)) (rs : List (Run P))
    → AreMaximal (texts u us ∷ rs)
    → AreMaximal (texts t (u ∷ us) ∷ rs)
maximal-longer t u us [] m = m
maximal-longer t u us (alone x ∷ rs) m = m
maximal-longer t u us (texts v vs ∷ rs) m = m

maximal-text : {P : Type 0} (t : PlacedText P) (rs : List (Run P)) → AreMaximal rs
    → AreMaximal (before_runs (text_item t) (Some t) rs)
maximal-text t [] m = m
maximal-text t (alone x ∷ rs) m = m
maximal-text t (texts u us ∷ rs) m = maximal-longer t u us rs m

maximal-more : {P : Type 0} (x : Item P) (rs : List (Run P)) → IsText x ⊎ (text_of_item x ≡ None) → AreMaximal rs
    → AreMaximal (before_runs x (text_of_item x) rs)
maximal-more x rs (inl is) m = subst (λ y. AreMaximal (before_runs y (text_of_item y) rs)) (sym is.is)
    (maximal-text is.t rs m)
maximal-more x rs (inr none) m = subst (λ o. AreMaximal (before_runs x o rs)) (sym none) (none, m)

-- the runs of a list are maximal
pub runs-maximal : {P : Type 0} (xs : List (Item P)) → AreMaximal (runs xs)
runs-maximal [] = tt
runs-maximal (x ∷ xs) = maximal-more x (runs xs) (text_or_none x) (runs-maximal xs)

module _ {P : Type 0} (through : P → P → P) where
  -- an item that is no Text before others
  before-no_text : (x : Item P) (ys : List (Item P)) → text_of_item x ≡ None → HasNoNeighbours ys
      → HasNoNeighbours (x ∷ ys)
  before-no_text x [] h n = tt
  before-no_text x (y ∷ ys) h n = (inl h, n)

  -- what a run of Texts gives, before an item that is no Text
  run-before : (r : List ℕ) (p : P) (y : Item P) (ys : List (Item P)) → text_of_item y ≡ None → HasNoNeighbours (y ∷ ys)
      → HasNoNeighbours (unless_empty r p ++ y ∷ ys)
  run-before [] p y ys h n = n
  run-before (b ∷ bs) p y ys h n = (inr h, n)

  run-last : (r : List ℕ) (p : P) → HasNoNeighbours (unless_empty r p ++ [])
  run-last [] p = tt
  run-last (b ∷ bs) p = tt

  items-apart : (rs : List (Run P)) → AreMaximal rs → HasNoNeighbours (flat_map (run_items through) rs)
  items-apart [] m = tt
  items-apart (alone x ∷ rs) m = before-no_text x (flat_map (run_items through) rs) m.0 (items-apart rs m.1)
  items-apart (texts t [] ∷ []) m = tt
  items-apart (texts t (u ∷ us) ∷ []) m = run-last (flat_map (λ x. x.bytes) (t ∷ u ∷ us))
      (through t.range (last_text u us).range)
  items-apart (texts t [] ∷ alone x ∷ rs) m = (inr m.0, items-apart (alone x ∷ rs) m)
  items-apart (texts t (u ∷ us) ∷ alone x ∷ rs) m =
      run-before (flat_map (λ x. x.bytes) (t ∷ u ∷ us)) (through t.range (last_text u us).range) x
      (flat_map (run_items through) rs) m.0
      (items-apart (alone x ∷ rs) m)
  items-apart (texts t us ∷ texts v vs ∷ rs) m = absurd m

  -- no two merged Texts are neighbours
  pub merged-apart : (xs : List (Item P)) → HasNoNeighbours (merged through xs)
  merged-apart xs = items-apart (runs xs) (runs-maximal xs)

  -- where no two Texts are neighbours, merging changes nothing
  pub merged-of_apart : (xs : List (Item P)) → HasNoNeighbours xs → merged through xs ≡ xs
  merged-of_apart [] n = refl
  merged-of_apart (x ∷ []) n = merged-one through x
  merged-of_apart (x ∷ y ∷ ys) n = by_kind (text_or_none x) n.0 ∙ ap (λ zs. x ∷ zs) (merged-of_apart (y ∷ ys) n.1)
    where
      by_kind : IsText x ⊎ (text_of_item x ≡ None) → AreApart x y → merged through (x ∷ y ∷ ys)
          ≡ x ∷ merged through (y ∷ ys)
      by_kind (inr none) a = merged-alone through x (y ∷ ys) none
      by_kind (inl is) (inl none) = merged-alone through x (y ∷ ys) none
      by_kind (inl is) (inr none) = subst (λ z. merged through (z ∷ y ∷ ys) ≡ z ∷ merged through (y ∷ ys)) (sym is.is)
          (merged-lone_text through is.t y ys none)

  -- merging twice is merging once
  pub merged-twice : (xs : List (Item P)) → merged through (merged through xs) ≡ merged through xs
  merged-twice xs = merged-of_apart (merged through xs) (merged-apart xs)
