-- The first element that passes a test, and its place in a list.
use Rattle.std.proofs.Common.{◌≡◌, ℕ, ◌+◌, ◌-◌, ◌<◌, ◌≤◌, List, [], ◌∷◌, ◌++◌, Bool, true, false, cond, Option, Some}
use Rattle.std.proofs.Common.{None, length, get_or, refl, arith, find, zero, suc, is_some}
use Rattle.std.specs.List.{position_from}

-- with no place there is no element
pub find_at_no_place : {X : Type 0} (p : X → Bool) (i : ℕ) (xs : List X) → position_from p i xs ≡ None → find p xs
    ≡ None
find_at_no_place p i [] e = refl
find_at_no_place {X} p i (x ∷ xs) e =
    let by_test = elim (p x) as (λ b. cond b (Some i) (position_from p (i + 1) xs) ≡ None → cond b (Some x) (find p xs)
    ≡ None) [
      | true ↦ λ h. cc
      | false ↦ λ h. find_at_no_place p (i + 1) xs h
    ] in by_test e

-- the element at a place, counted from the first
pub record IsFoundAt {X : Type 0} (p : X → Bool) (i : ℕ) (xs : List X) (place : ℕ) : Type 0 where
  pub from : i ≤ place
  pub in_range : place < i + length xs
  pub element : (d : X) → find p xs ≡ Some (get_or xs (place - i) d)

-- the same where the first element passes the test or not
record IsFoundHere {X : Type 0} (x : X) (b : Bool) (later : Option X) (i : ℕ) (xs : List X) (place : ℕ) : Type 0 where
  from : i ≤ place
  in_range : place < i + length (x ∷ xs)
  element : (d : X) → cond b (Some x) later ≡ Some (get_or (x ∷ xs) (place - i) d)

here_first : {X : Type 0} (x : X) (xs : List X) (i place : ℕ) (later : Option X) → Some i ≡ Some place
    → IsFoundHere x true later i xs place
here_first x xs i place later e =
    let same : i ≡ place = cc in
    record {
      from = omega arith;
      in_range = omega arith;
      element = λ d. let zero : place - i ≡ 0 = omega arith in rw zero;
    }

here_later : {X : Type 0} (x : X) (xs : List X) (i place : ℕ) (p : X → Bool) → IsFoundAt p (i + 1) xs place
    → IsFoundHere x false (find p xs) i xs place
here_later x xs i place p later =
    record {
      from = omega (arith, later.from);
      in_range = omega (arith, later.in_range);
      element = λ d. let next : place - i ≡ suc (place - (i + 1)) = omega (arith, later.from) in rw next
          (later.element d);
    }

pub find_at_place : {X : Type 0} (p : X → Bool) (i : ℕ) (xs : List X) (place : ℕ) → position_from p i xs ≡ Some place
    → IsFoundAt p i xs place
find_at_place p i [] place e = cc
find_at_place {X} p i (x ∷ xs) place e =
    let by_test = elim (p x) as (λ b. cond b (Some i) (position_from p (i + 1) xs) ≡ Some place
    → IsFoundHere x b (find p xs) i xs place) [
      | true ↦ λ h. here_first x xs i place (find p xs) h
      | false ↦ λ h. here_later x xs i place p (find_at_place p (i + 1) xs place h)
    ] in let r = by_test e in record { from = r.from; in_range = r.in_range; element = r.element }

-- there is a place if and only if there is an element
pub same_presence : {X : Type 0} (p : X → Bool) (i : ℕ) (xs : List X) → is_some (position_from p i xs)
    ≡ is_some (find p xs)
same_presence p i [] = refl
same_presence {X} p i (x ∷ xs) =
    elim (p x)
    as (λ b. is_some (cond b (Some i) (position_from p (i + 1) xs)) ≡ is_some (cond b (Some x) (find p xs))) [
      | true ↦ refl
      | false ↦ same_presence p (i + 1) xs
    ]

-- the place in a list with one more element
pub place_pushed : {X : Type 0} (p : X → Bool) (i : ℕ) (xs : List X) (y : X)
    → position_from p i (xs ++ y ∷ []) ≡ cond (is_some (position_from p i xs)) (position_from p i xs)
    (cond (p y) (Some (i + length xs)) None)
place_pushed {X} p i [] y = let whole : i + 0 ≡ i = omega arith in rw whole
place_pushed {X} p i (x ∷ xs) y =
    let longer : i + suc (length xs) ≡ (i + 1) + length xs = omega arith in
    rw longer (
    elim (p x) as (λ b. cond b (Some i) (position_from p (i + 1) (xs ++ y ∷ []))
    ≡ cond (is_some (cond b (Some i) (position_from p (i + 1) xs))) (cond b (Some i) (position_from p (i + 1) xs))
    (cond (p y) (Some ((i + 1) + length xs)) None)) [
      | true ↦ refl
      | false ↦ place_pushed p (i + 1) xs y
    ])

-- the first element of two lists, one after the other
pub find_in_both : {X : Type 0} (p : X → Bool) (xs ys : List X) → find p (xs ++ ys)
    ≡ cond (is_some (find p xs)) (find p xs) (find p ys)
find_in_both p [] ys = refl
find_in_both {X} p (x ∷ xs) ys =
    elim (p x) as (λ b. cond b (Some x) (find p (xs ++ ys)) ≡ cond (is_some (cond b (Some x) (find p xs)))
    (cond b (Some x) (find p xs))
    (find p ys)) [
      | true ↦ refl
      | false ↦ find_in_both p xs ys
    ]

-- where no element passes the test, none at a place does
pub none_at : {X : Type 0} (p : X → Bool) (xs : List X) → is_some (find p xs) ≡ false → (k : ℕ) (d : X) → k < length xs
    → p (get_or xs k d) ≡ false
none_at p [] e k d h = absurd (omega arith)
none_at {X} p (x ∷ xs) e zero d h =
    let by_test = elim (p x) as (λ b. is_some (cond b (Some x) (find p xs)) ≡ false → b ≡ false)
    [ true ↦ λ t. cc | false ↦ λ t. refl ] in
    by_test e
none_at {X} p (x ∷ xs) e (suc k) d h =
    let by_test = elim (p x) as (λ b. is_some (cond b (Some x) (find p xs)) ≡ false
    → is_some (find p xs) ≡ false) [ true ↦ λ t. cc | false ↦ λ t. t ] in
    let shorter : k < length xs = omega arith in
    none_at p xs (by_test e) k d shorter
