-- A stack of openers as the list that it represents.
use Rattle.std.proofs.Common.{◌≡◌, ◌⊎◌, inl, inr, ℕ, suc, zero, ◌+◌, ◌-◌, ◌<◌, ◌≤◌, Bool, true, false, ◌&&◌, List, []}
use Rattle.std.proofs.Common.{◌∷◌, ◌++◌, Some, length, get_or, take, map, min, nat_le, arith, refl, sym, ◌∙◌, ap}
use Rattle.std.proofs.Common.{reverse}
use Rattle.std.proofs.lemmas.Bool.{lt-leb, le-leb, cases_lt}
use Rattle.std.proofs.lemmas.Bool.Decides.{nat_tests}
use Rattle.std.proofs.lemmas.List.{reverse-append, map-append, take_more, take_all}
use Rattle.std.proofs.lemmas.Option.{slice_get-get_or}
use Rattle.std.specs.List.{slice_get}
use Rattle.markdown_brackets.specs.Openers.{Waiting, live_opener, disabled_opener, before, first_opener}
use Rattle.markdown_brackets.specs.OpenerStack.{marked, waiting_openers}
use Rattle.markdown_brackets.specs.declared.openers.Opener.{Opener}
use Rattle.std.proofs.Math.Bool.{and-true}
use Rattle.std.specs.Prelude.{if◌then◌else◌}

-- in reverse, an element at the end comes first
pub reverse-snoc : {A : Type 0} (xs : List A) (x : A) → reverse (xs ++ x ∷ []) ≡ x ∷ reverse xs
reverse-snoc xs x = reverse-append xs (x ∷ [])

pub map-reverse : {A B : Type 0} (f : A → B) (xs : List A) → map f (reverse xs) ≡ reverse (map f xs)
map-reverse f [] = refl
map-reverse f (x ∷ xs) =
    ap (map f) (reverse-append (x ∷ []) xs) ∙ map-append f (reverse xs) (x ∷ [])
    ∙ ap (λ ys. ys ++ f x ∷ []) (map-reverse f xs) ∙ sym (reverse-append (f x ∷ []) (map f xs))

le_suc : (a b : ℕ) → nat_le (suc a) (suc b) ≡ nat_le a b
le_suc a b = grind (arith, nat_tests)

-- one more, which is disabled where more than the others are
abbrev last_of : ℕ → List Opener → Opener → Waiting
last_of n openers o = if nat_le n (length openers) then live_opener o else disabled_opener (live_opener o)

last_is : (n : ℕ) (openers : List Opener) (o : Opener) → (last_of n openers o).opener ≡ o
last_is n openers o = by (nat_le n (length openers))
  where
    by : (b : Bool) → (if b then live_opener o else disabled_opener (live_opener o)).opener ≡ o
    by true = refl
    by false = refl

marked_last : (n : ℕ) (openers : List Opener) (o : Opener) → marked n (openers ++ o ∷ [])
    ≡ marked n openers ++ last_of n openers o ∷ []
marked_last zero [] o = refl
marked_last (suc n) [] o = rw (lt-leb (suc n) 0 (omega arith)) refl
marked_last zero (x ∷ openers) o =
    rw (le-leb 0 (suc (length openers)) (omega arith))
    (ap (λ ws. live_opener x ∷ ws) (rw (le-leb 0 (length openers) (omega arith)) at (marked_last zero openers o)))
marked_last (suc n) (x ∷ openers) o =
    rw (le_suc n (length openers)) (ap (λ ws. disabled_opener (live_opener x) ∷ ws) (marked_last n openers o))

waiting_last : (n : ℕ) (openers : List Opener) (o : Opener) → waiting_openers n (openers ++ o ∷ [])
    ≡ last_of n openers o ∷ waiting_openers n openers
waiting_last n openers o = ap reverse (marked_last n openers o) ∙ reverse-snoc (marked n openers) (last_of n openers o)

pub waiting_live : (n : ℕ) (openers : List Opener) (o : Opener) → n ≤ length openers
    → waiting_openers n (openers ++ o ∷ []) ≡ live_opener o ∷ waiting_openers n openers
waiting_live n openers o h = rw (waiting_last n openers o, le-leb n (length openers) h) refl

-- to disable twice is to disable once
disabled_twice : (o : Opener) → disabled_opener (disabled_opener (live_opener o)) ≡ disabled_opener (live_opener o)
disabled_twice o = ap (λ b. record { opener = o; is_live = b }) (twice o.is_image)
  where
    twice : (b : Bool) → (b && (b && true)) ≡ (b && true)
    twice true = refl
    twice false = refl

marked_all : (n : ℕ) (openers : List Opener) → marked (length openers) openers ≡ map disabled_opener (marked n openers)
marked_all n [] = refl
marked_all zero (x ∷ openers) = ap (λ ws. disabled_opener (live_opener x) ∷ ws) (marked_all zero openers)
marked_all (suc n) (x ∷ openers) = ap (λ w. w ∷ marked (length openers) openers) (sym (disabled_twice x))
    ∙ ap (λ ws. disabled_opener (disabled_opener (live_opener x)) ∷ ws) (marked_all n openers)

-- all are disabled
pub waiting_all : (n : ℕ) (openers : List Opener) → waiting_openers (length openers) openers
    ≡ map disabled_opener (waiting_openers n openers)
waiting_all n openers = ap reverse (marked_all n openers) ∙ sym (map-reverse disabled_opener (marked n openers))

-- more than there are cannot be disabled
marked_past : (n : ℕ) (openers : List Opener) → length openers ≤ n → marked n openers ≡ marked (length openers) openers
marked_past n [] h = refl
marked_past zero (x ∷ openers) h = absurd (omega arith)
marked_past (suc n) (x ∷ openers) h = ap (λ ws. disabled_opener (live_opener x) ∷ ws)
    (marked_past n openers (omega arith))

pub waiting_past : (n : ℕ) (openers : List Opener) → length openers ≤ n → waiting_openers n openers
    ≡ waiting_openers (length openers) openers
waiting_past n openers h = ap reverse (marked_past n openers h)

-- the last one of all, where all are disabled
pub waiting_image : (openers : List Opener) (o : Opener) → waiting_openers (suc (length openers)) (openers ++ o ∷ [])
    ≡ record { opener = o; is_live = o.is_image } ∷ waiting_openers (length openers) openers
waiting_image openers o =
    rw (
      waiting_last (suc (length openers)) openers o,
      lt-leb (suc (length openers)) (length openers) (omega arith),
      waiting_past (suc (length openers)) openers (omega arith),
      and-true o.is_image,
    ) refl

-- no more are disabled than there are
pub waiting_min : (n : ℕ) (openers : List Opener) → waiting_openers n openers ≡ waiting_openers (min n (length openers))
    openers
waiting_min n openers = by (cases_lt n (length openers))
  where
    by : (n < length openers) ⊎ (length openers ≤ n) → waiting_openers n openers
        ≡ waiting_openers (min n (length openers)) openers
    by (inl l) =
        let same : n ≡ min n (length openers) = omega (arith, l) in ap (λ m. waiting_openers m openers) same
    by (inr l) =
        let same : length openers ≡ min n (length openers) = omega (arith, l) in
        waiting_past n openers l ∙ ap (λ m. waiting_openers m openers) same

-- the last of `left` openers is removed, or stays
taken_last : (n left : ℕ) (openers : List Opener) (d : Opener) → 0 < left → left ≤ length openers
    → waiting_openers n (take left openers) ≡ last_of n (take (left - 1) openers) (get_or openers (left - 1) d)
    ∷ waiting_openers n (take (left - 1) openers)
taken_last n left openers d some within =
    let size : left ≡ left - 1 + 1 = omega (arith, some) in
    ap (λ m. waiting_openers n (take m openers)) size
    ∙ ap (waiting_openers n) (take_more openers (left - 1) d (omega (arith, some, within)))
    ∙ waiting_last n (take (left - 1) openers) (get_or openers (left - 1) d)

pub nearest_goes : (node n left : ℕ) (openers : List Opener) (d : Opener) → 0 < left → left ≤ length openers
    → node ≤ (get_or openers (left - 1) d).node → before node (waiting_openers n (take left openers))
    ≡ before node (waiting_openers n (take (left - 1) openers))
nearest_goes node n left openers d some within le =
    rw (taken_last n left openers d some within, last_is n (take (left - 1) openers) _, le-leb node _ le) refl

pub nearest_stays : (node n left : ℕ) (openers : List Opener) (d : Opener) → 0 < left → left ≤ length openers
    → (get_or openers (left - 1) d).node < node → before node (waiting_openers n (take left openers))
    ≡ waiting_openers n (take left openers)
nearest_stays node n left openers d some within lt =
    rw (taken_last n left openers d some within, last_is n (take (left - 1) openers) _, lt-leb node _ lt) refl

-- the nearest is the last
first_last : (n : ℕ) (openers : List Opener) (o : Opener) → first_opener (waiting_openers n (openers ++ o ∷ []))
    ≡ Some o
first_last n openers o = rw (waiting_last n openers o, last_is n openers o) refl

pub nearest_is : (n : ℕ) (openers : List Opener) → slice_get openers (length openers - 1)
    ≡ first_opener (waiting_openers n openers)
nearest_is n [] = refl
nearest_is n (x ∷ openers) =
    let all : List Opener = x ∷ openers in
    let k : ℕ = length openers in
    let within : k < length all = omega arith in
    let last : length all - 1 ≡ k = omega arith in
    let whole : length all ≤ k + 1 = omega arith in
    ap (slice_get all) last ∙ slice_get-get_or all k x within ∙ sym (first_last n (take k all) (get_or all k x))
    ∙ ap (λ (l : List Opener). first_opener (waiting_openers n l))
    (sym (take_more all k x within) ∙ take_all (k + 1) all whole)
