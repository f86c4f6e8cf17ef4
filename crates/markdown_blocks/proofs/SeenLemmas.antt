-- Numbers that are marked as they are met, and what it means that none is met twice.
use Rattle.std.proofs.Common.{◌≡◌, ℕ, suc, zero, ◌<◌, ◌≤◌, List, [], ◌∷◌, Bool, true, false, length, get_or, set}
use Rattle.std.proofs.Common.{replicate, refl, sym, ap, ◌∙◌, arith}
use Rattle.std.specs.Prelude.{nat_eq, ⊤}
use Rattle.std.specs.List.{AllByRecursion, IsDistinct}
use Rattle.std.proofs.lemmas.Bool.{eqb-false, ne_eqb}
use Rattle.std.proofs.lemmas.List.{get_or-set_other, get_or-replicate}
use Rattle.markdown_base.proofs.ForestLemmas.{All-weaker}
use Rattle.markdown_blocks.specs.NodeRules.{AreNamedOnce}

-- none of the numbers is marked, and each is marked as it is met
abbrev pub Fresh : List Bool → List ℕ → Type 0
Fresh seen [] = ⊤
Fresh seen (x ∷ xs) = (get_or seen x true ≡ false) × Fresh (set seen x true) xs

-- n marks, none of them set
abbrev pub unmarked : ℕ → List Bool
unmarked n = replicate n false

-- the number of marks that are not set
abbrev pub unset : List Bool → ℕ
unset [] = 0
unset (true ∷ seen) = unset seen
unset (false ∷ seen) = suc (unset seen)

-- one fewer, once one of them is set
pub unset-set : (seen : List Bool) (ix : ℕ) → get_or seen ix true ≡ false
    → suc (unset (set seen ix true)) ≡ unset seen
unset-set [] ix h = cc
unset-set (true ∷ seen) zero h = cc
unset-set (false ∷ seen) zero h = refl
unset-set (true ∷ seen) (suc ix) h = unset-set seen ix h
unset-set (false ∷ seen) (suc ix) h = ap suc (unset-set seen ix h)

-- of n marks none of which is set, n are not set
unset-unmarked : (n : ℕ) → unset (unmarked n) ≡ n
unset-unmarked zero = refl
unset-unmarked (suc n) = ap suc (unset-unmarked n)

-- there are no more numbers than marks that are not set
Fresh-length : (seen : List Bool) (xs : List ℕ) → Fresh seen xs → length xs ≤ unset seen
Fresh-length seen [] h = omega arith
Fresh-length seen (x ∷ xs) h = omega (arith, Fresh-length (set seen x true) xs h.1, unset-set seen x h.0)

-- nor than there are marks
pub Fresh-unmarked_length : (n : ℕ) (xs : List ℕ) → Fresh (unmarked n) xs → length xs ≤ n
Fresh-unmarked_length n xs h = omega (arith, Fresh-length (unmarked n) xs h, unset-unmarked n)

-- a number with an unset mark has a mark
pub unset_within : (seen : List Bool) (ix : ℕ) → get_or seen ix true ≡ false → ix < length seen
unset_within [] ix h = cc
unset_within (b ∷ seen) zero h = omega arith
unset_within (b ∷ seen) (suc ix) h = omega (arith, unset_within seen ix h)

-- a mark that was set is set
marked_same : (seen : List Bool) (ix : ℕ) → get_or (set seen ix true) ix true ≡ true
marked_same [] ix = refl
marked_same (b ∷ seen) zero = refl
marked_same (b ∷ seen) (suc ix) = marked_same seen ix

-- a mark that is not set once another is, is another one
unset_other : (seen : List Bool) (x y : ℕ) → get_or (set seen x true) y true ≡ false
    → nat_eq x y ≡ false
unset_other seen x y h = ne_eqb x y (λ e. let same : get_or (set seen x true) y true
    ≡ true = rw (← e) (marked_same seen x) in cc)

-- and it was not set before
unset_before : (seen : List Bool) (x y : ℕ) → get_or (set seen x true) y true ≡ false
    → get_or seen y true ≡ false
unset_before seen x y h =
    let other : y ≡ x → ⊥ = λ e. eqb-false x y (unset_other seen x y h) (sym e) in
    sym (get_or-set_other seen x y true true other) ∙ h

-- fresh numbers are not marked
Fresh-unset : (seen : List Bool) (xs : List ℕ) → Fresh seen xs
    → AllByRecursion (λ x. get_or seen x true ≡ false) xs
Fresh-unset seen [] h = tt
Fresh-unset seen (x ∷ xs) h = (
  h.0,
  All-weaker (λ y. get_or (set seen x true) y true ≡ false) (λ y. get_or seen y true ≡ false)
      (λ y. unset_before seen x y) xs
      (Fresh-unset (set seen x true) xs h.1),
)

-- and distinct
Fresh-distinct : (seen : List Bool) (xs : List ℕ) → Fresh seen xs → IsDistinct nat_eq xs
unfolding IsDistinct
Fresh-distinct seen [] h = tt
Fresh-distinct seen (x ∷ xs) h = (
  All-weaker (λ y. get_or (set seen x true) y true ≡ false) (λ y. nat_eq x y ≡ false) (λ y. unset_other seen x y) xs
      (Fresh-unset (set seen x true) xs h.1),
  Fresh-distinct (set seen x true) xs h.1,
)

-- numbers stay unmarked when another is marked
unset_after : (seen : List Bool) (x : ℕ) (xs : List ℕ)
    → AllByRecursion (λ y. get_or seen y true ≡ false) xs
    → AllByRecursion (λ y. nat_eq x y ≡ false) xs
    → AllByRecursion (λ y. get_or (set seen x true) y true ≡ false) xs
unset_after seen x [] a d = tt
unset_after seen x (y ∷ xs) a d =
    let other : y ≡ x → ⊥ = λ e. eqb-false x y d.0 (sym e) in
    (get_or-set_other seen x y true true other ∙ a.0, unset_after seen x xs a.1 d.1)

-- distinct numbers none of which is marked are fresh
distinct-Fresh : (seen : List Bool) (xs : List ℕ)
    → AllByRecursion (λ x. get_or seen x true ≡ false) xs → IsDistinct nat_eq xs → Fresh seen xs
unfolding IsDistinct
distinct-Fresh seen [] a d = tt
distinct-Fresh seen (x ∷ xs) a d = (a.0, distinct-Fresh (set seen x true) xs (unset_after seen x xs a.1 d.0) d.1)

-- of n marks none of which is set, each number below n has one
unmarked_below : (n x : ℕ) → x < n → get_or (unmarked n) x true ≡ false
unmarked_below n x h = get_or-replicate n x false true h

-- and no other
below_unmarked : (n x : ℕ) → get_or (unmarked n) x true ≡ false → x < n
below_unmarked zero x h = cc
below_unmarked (suc n) zero h = omega arith
below_unmarked (suc n) (suc x) h = omega (arith, below_unmarked n x h)

-- numbers that are fresh for n marks, none of which is set, are below n and distinct
pub AreNamedOnce-from_Fresh : (n : ℕ) (xs : List ℕ) → Fresh (unmarked n) xs → AreNamedOnce n xs
AreNamedOnce-from_Fresh n xs h = record {
  within = All-weaker (λ x. get_or (unmarked n) x true ≡ false) (λ x. x < n) (λ x. below_unmarked n x) xs
      (Fresh-unset (unmarked n) xs h);
  once = Fresh-distinct (unmarked n) xs h;
}

-- numbers below n that are distinct are fresh for n marks, none of which is set
pub Fresh-from_AreNamedOnce : (n : ℕ) (xs : List ℕ) → AreNamedOnce n xs → Fresh (unmarked n) xs
Fresh-from_AreNamedOnce n xs o =
    distinct-Fresh (unmarked n) xs
    (All-weaker (λ x. x < n) (λ x. get_or (unmarked n) x true ≡ false) (λ x. unmarked_below n x) xs o.within)
    o.once
