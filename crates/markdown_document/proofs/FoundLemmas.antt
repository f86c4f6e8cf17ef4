-- A forest that is spelled, and in which no number occurs twice, is the one that is found.
use Rattle.std.proofs.Common.{◌≡◌, ℕ, zero, suc, ◌+◌, ◌<◌, ◌≤◌, true, false, eqb, List, [], ◌∷◌, ◌++◌, length, Option}
use Rattle.std.proofs.Common.{⊎_elim, refl, sym, ap, subst, arith}
use Rattle.std.specs.Prelude.{nat_eq}
use Rattle.std.specs.List.{AllByRecursion, IsDistinct, list_any}
use Rattle.std.proofs.lemmas.Bool.{or_cases, cases_eq, eqb-true, eqb-false, ne_eqb}
use Rattle.std.proofs.lemmas.List.Folds.{list_any-append}
use Rattle.std.proofs.lemmas.Map.Steps.{length-le_from_distinct_below}
use Rattle.markdown_base.specs.ArenaForest.{Links, Spells, forest_at}
use Rattle.markdown_base.specs.Forest.{Forest, nil, node, preorder}
use Rattle.markdown_base.proofs.ArenaForestLemmas.{height-preorder, forest_at-fits}
use Rattle.markdown_document.specs.Totals.{total, same}
use Rattle.markdown_document.proofs.TablesLemmas.{same-refl}

-- the sum over a list
abbrev pub listed : (ℕ → ℕ) → List ℕ → ℕ
listed count [] = 0
listed count (x ∷ xs) = count x + listed count xs

pub listed-append : (count : ℕ → ℕ) (xs ys : List ℕ) → listed count (xs ++ ys) ≡ listed count xs + listed count ys
listed-append count [] ys = omega arith
listed-append count (x ∷ xs) ys = omega (arith, listed-append count xs ys)

pub total-preorder : (count : ℕ → ℕ) (f : Forest ℕ) → total count f ≡ listed count (preorder f)
total-preorder count nil = refl
total-preorder count (node ix below after) =
    omega (
      arith,
      listed-append count (preorder below) (preorder after),
      total-preorder count below,
      total-preorder
          count after,
    )

same-other : (n m : ℕ) → (n ≡ m → ⊥) → same n m ≡ 0
same-other zero zero h = absurd (h refl)
same-other zero (suc m) h = refl
same-other (suc n) zero h = refl
same-other (suc n) (suc m) h = same-other n m (λ e. h (ap suc e))

-- a number occurs at most once in a list of distinct ones
none_listed : (n : ℕ) (xs : List ℕ) → AllByRecursion (λ y. nat_eq n y ≡ false) xs → listed (same n) xs ≡ 0
none_listed n [] h = refl
none_listed n (x ∷ xs) h = omega (arith, same-other n x (eqb-false n x h.0), none_listed n xs h.1)

pub listed_once : (n : ℕ) (xs : List ℕ) → IsDistinct nat_eq xs → listed (same n) xs ≤ 1
unfolding IsDistinct
listed_once n [] d = omega arith
listed_once n (x ∷ xs) d =
    ⊎_elim
    (λ e. let none = none_listed x xs d.0 in let one = same-refl x in let first : listed (same x) (x ∷ xs) ≤ 1 = omega
    arith
    in subst (λ (m : ℕ). listed (same m) (x ∷ xs) ≤ 1) (sym e) first)
    (λ other. omega (arith, same-other n x other, listed_once n xs d.1))
    (cases_eq n x)

-- numbers of which each occurs at most once are distinct
apart : (x : ℕ) (xs : List ℕ) → listed (same x) xs ≡ 0 → AllByRecursion (λ y. nat_eq x y ≡ false) xs
apart x [] h = tt
apart x (y ∷ ys) h = (
  ne_eqb x y (λ e. let one : same x y ≡ 1 = subst (λ (m : ℕ). same x m ≡ 1) e (same-refl x)
      in absurd (omega (arith, h))),
  apart x ys (omega (arith, h)),
)

distinct_listed : (xs : List ℕ) → ((n : ℕ) → listed (same n) xs ≤ 1) → IsDistinct nat_eq xs
unfolding IsDistinct
distinct_listed [] h = tt
distinct_listed (x ∷ xs) h = (
  apart x xs (let a = h x in let b = same-refl x in omega arith),
  distinct_listed xs (λ n. let a = h n in omega arith),
)

-- what the links lead to is a node
spelled_within : (k : Links) (l : Option ℕ) (f : Forest ℕ) → Spells k l f → (q : ℕ) → list_any (eqb q) (preorder f)
    ≡ true → q < k.size
spelled_within k l nil s q h = cc h
spelled_within k l (node ix below after) s q h =
    ⊎_elim
    (λ here. let e : q ≡ ix = eqb-true q ix here in omega (arith, e, s.1))
    (λ deeper. ⊎_elim
    (λ first. spelled_within k (k.child ix) below s.2 q first)
    (λ second. spelled_within k (k.next ix) after s.3 q second)
    (or_cases (list_any (eqb q) (preorder below)) (list_any (eqb q) (preorder after))
    (rw (list_any-append (eqb q) (preorder below) (preorder after)) at deeper)))
    (or_cases (eqb q ix) (list_any (eqb q) (preorder below ++ preorder after)) h)

-- so there are no more of them than nodes
pub few : (k : Links) (l : Option ℕ) (f : Forest ℕ) → Spells k l f → ((n : ℕ) → total (same n) f ≤ 1)
    → length (preorder f) ≤ k.size
few k l f s once =
    let d = distinct_listed (preorder f) (λ n. let a = once n in let b = total-preorder (same n) f in omega arith) in
    length-le_from_distinct_below (preorder f) k.size d (spelled_within k l f s)

pub found : (k : Links) (l : Option ℕ) (f : Forest ℕ) → Spells k l f → ((n : ℕ) → total (same n) f ≤ 1) → forest_at k l
    ≡ f
found k l f s once = forest_at-fits k l f s (omega (arith, few k l f s once, height-preorder f))
