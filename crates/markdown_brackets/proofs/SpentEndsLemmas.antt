-- Numbers in order: what a binary search for one finds among them, and what is among them once one is put in.
use Rattle.std.proofs.Common.{◌≡◌, ◌==◌, ◌||◌, ◌<◌, ◌∷◌, ℕ, List, Result, Ok, Err, true, false, arith}
use Rattle.std.proofs.Common.{Bool, if◌then◌else◌, is_ok, sym}
use Rattle.std.specs.List.{All, insert, list_any}
use Rattle.std.specs.List.Sorted.{IsBinarySearchResult, IsNonDecreasing}
use Rattle.std.specs.Ordering.{nat_cmp}
use Rattle.std.proofs.lemmas.Bool.Decides.{nat_tests}
use Rattle.std.proofs.lemmas.List.{get_or_default}
use Rattle.std.proofs.lemmas.List.Folds.{list_any_at, list_any_none}
use Rattle.std.proofs.lemmas.List.Sorted.{IsNonDecreasingBy-insert, IsPermutation-insert, list_any-IsPermutation}
use Rattle.std.proofs.lemmas.List.Sorted.{searched}

module _ (xs : List ℕ) (n : ℕ) where
  abbrev is_in : ℕ → Bool
  is_in m = list_any (λ x. x == m) xs

  -- what is above all others is not among them
  pub not_above : All (λ x. x < n) xs → is_in n ≡ false
  not_above below = list_any_none (λ x. x == n) xs (λ k d l. grind (arith, nat_tests, below k d l))

  module _ (up : IsNonDecreasing xs) where
    -- a binary search finds what is among them
    pub search_finds : (r : Result ℕ ℕ) → IsBinarySearchResult (λ x. nat_cmp x n) xs r → is_ok r ≡ is_in n
    search_finds (Ok i) is =
        let found = searched xs n (Ok i) is (λ i j. up i j 0) in
        sym (list_any_at (λ x. x == n) xs i 0 found.0 (grind (arith, nat_tests, found.1)))
    search_finds (Err i) is =
        let around = searched xs n (Err i) is (λ i j. up i j 0) in
        sym (list_any_none (λ x. x == n) xs (λ k d l. rw (get_or_default xs k d 0 l)
        (grind (arith, nat_tests, around.1 k, around.2 k))))

    -- put in where it was looked for in vain, or kept out, all are in order
    pub ordered_insert : (at : ℕ) → IsBinarySearchResult (λ x. nat_cmp x n) xs (Err at) → (put : Bool)
        → IsNonDecreasing (if put then insert xs at n else xs)
    ordered_insert at is false = up
    ordered_insert at is true =
        let around = searched xs n (Err at) is (λ i j. up i j 0) in
        IsNonDecreasingBy-insert (λ x. x) xs at n up around.0
        (λ k d b. rw (get_or_default xs k d 0 (omega (arith, b, around.0))) (omega (arith, around.1 k b)))
        (λ k d a l. rw (get_or_default xs k d 0 l) (omega (arith, around.2 k a l)))

  -- one is put in, and no other
  pub inserted_in : (at m : ℕ) → list_any (λ x. x == m) (insert xs at n) ≡ ((n == m) || is_in m)
  inserted_in at m = sym (list_any-IsPermutation (λ x. x == m) (n ∷ xs) (insert xs at n) (IsPermutation-insert xs at n))

  -- what is among them already need not be put in
  pub in_already : is_in n ≡ true → (m : ℕ) → is_in m ≡ ((n == m) || is_in m)
  in_already is m = grind (arith, nat_tests, is)
