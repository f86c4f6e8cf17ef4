-- Laws of lists: of their first elements and of the rest, and of what is written of each character of a text.
use Rattle.std.proofs.Common.{◌≡◌, ◌∙◌, ℕ, zero, suc, ◌+◌, ◌-◌, ◌<◌, ◌≤◌, min, List, [], ◌∷◌, ◌++◌, length, get_or}
use Rattle.std.proofs.Common.{take, drop, refl, sym, ap, arith, add-one, drop-cons, ⊎_elim, append_assoc, chars}
use Rattle.std.proofs.Common.{encode_utf8, IsUtf8, flat_map}
use Rattle.std.proofs.Math.Seq.{take-nil}
use Rattle.std.proofs.lemmas.Bool.{cases_lt}
use Rattle.std.proofs.lemmas.List.{length-take, take-take, take_all, nil_from_length}
use Rattle.std.proofs.lemmas.Str.{chars_past_char, chars-nil}

-- equal lists have the same first element and the same rest
pub cons-head : {A : Type 0} {x y : A} {xs ys : List A} → x ∷ xs ≡ y ∷ ys → x ≡ y
cons-head {A} {x} {y} {xs} {ys} e = cc

pub cons-tail : {A : Type 0} {x y : A} {xs ys : List A} → x ∷ xs ≡ y ∷ ys → xs ≡ ys
cons-tail {A} {x} {y} {xs} {ys} e = cc

-- the first elements, without some of them and with fewer of them
pub drop_of_take : {A : Type 0} (n m : ℕ) (xs : List A) → drop n (take m xs) ≡ take (m - n) (drop n xs)
drop_of_take zero m xs = let all : m ≡ m - 0 = omega arith in ap (λ k. take k xs) all
drop_of_take (suc n) zero xs = let none : 0 ≡ 0 - suc n = omega arith in ap (λ k. take k (drop (suc n) xs)) none
drop_of_take {A} (suc n) (suc m) [] = sym (take-nil {A = A} (suc m - suc n))
drop_of_take (suc n) (suc m) (x ∷ xs) = let less : m - n ≡ suc m - suc n = omega arith in
    drop_of_take n m xs ∙ ap (λ k. take k (drop n xs)) less

pub take_of_take : {A : Type 0} (n m : ℕ) (xs : List A) → take n (take m xs) ≡ take (min n m) xs
take_of_take n m xs = ⊎_elim
    (λ (l : n < m). let e : n ≡ min n m = omega (arith, l) in
    take-take n m xs (omega (arith, l)) ∙ ap (λ k. take k xs) e)
    (λ (l : m ≤ n). let e : m ≡ min n m = omega (arith, l) in
    take_all n (take m xs) (omega (arith, l, length-take m xs)) ∙ ap (λ k. take k xs) e) (cases_lt n m)

-- the bytes from a place on begin with the one there
pub bytes_from : (bytes : List ℕ) (i : ℕ) → i < length bytes → drop i bytes ≡ get_or bytes i 0 ∷ drop (i + 1) bytes
bytes_from bytes i h = rw (add-one, drop-cons bytes i 0) refl

-- ---- what is written of each character of a text

-- where there is none
pub written-none : (f : ℕ → List ℕ) (text : List ℕ) → length text ≡ 0 → flat_map f (chars text) ≡ []
written-none f text none = ap (λ t. flat_map f (chars t)) (nil_from_length text none) ∙ ap (flat_map f) chars-nil

-- where one comes first, after what was written before
pub written-on : (f : ℕ → List ℕ) (written written' text rest whole : List ℕ) (c : ℕ) → IsUtf8 text
    → text ≡ encode_utf8 c ++ rest → written' ≡ written ++ f c → written ++ flat_map f (chars text) ≡ whole
    → written' ++ flat_map f (chars rest) ≡ whole
written-on f written written' text rest whole c utf8 parts more so_far =
    ap (λ w. w ++ flat_map f (chars rest)) more
    ∙ append_assoc written (f c) (flat_map f (chars rest))
    ∙ ap (λ w. written ++ w) (sym (ap (flat_map f) (chars_past_char text rest c utf8 parts)))
    ∙ so_far
