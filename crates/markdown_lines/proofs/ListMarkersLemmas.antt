-- Numbers of list markers, digit by digit.
use Rattle.std.proofs.Common.{◌≡◌, ℕ, zero, suc, ◌+◌, ◌-◌, ◌*◌, ◌<◌, ◌≤◌, ◌^◌, min, List, [], ◌∷◌, Bool, true, false}
use Rattle.std.proofs.Common.{Some, length, take, drop, get_or, refl, subst, arith, cond}
use Rattle.std.proofs.lemmas.Bool.Decides.{nat_tests}
use Rattle.std.proofs.lemmas.Grind.{common_steps, pow_more}
use Rattle.std.proofs.lemmas.List.Sums.{AllPass-from_list_all}
use Rattle.std.specs.Prelude.{nat_lt}
use Rattle.std.specs.Char.{is_ascii_digit}
use Rattle.std.specs.List.{list_all, prefix_len, slice_get}
use Rattle.markdown_lines.specs.ListMarkers.{decimal, ends_number, ordered_marker}
use Rattle.markdown_scan.proofs.LineStartLemmas.{eq_test_false}

-- one digit more
pub decimal_more : (digits : List ℕ) (i : ℕ) → i < length digits
    → decimal (take (i + 1) digits) ≡ decimal (take i digits) * 10 + (get_or digits i 0 - 48)
decimal_more digits i more = grind (arith, common_steps)

-- the powers of ten up to the eighth
pub tens : (i : ℕ) → i ≤ 8 → 10 ^ i ≤ 100000000
tens zero h = omega arith
tens (suc zero) h = omega arith
tens (suc (suc zero)) h = omega arith
tens (suc (suc (suc zero))) h = omega arith
tens (suc (suc (suc (suc zero)))) h = omega arith
tens (suc (suc (suc (suc (suc zero))))) h = omega arith
tens (suc (suc (suc (suc (suc (suc zero)))))) h = omega arith
tens (suc (suc (suc (suc (suc (suc (suc zero))))))) h = omega arith
tens (suc (suc (suc (suc (suc (suc (suc (suc zero)))))))) h = omega arith
tens (suc (suc (suc (suc (suc (suc (suc (suc (suc i))))))))) h = absurd (omega (arith, h))

-- a digit is less than ten
digit_below : (byte : ℕ) → is_ascii_digit byte ≡ true → byte - 48 < 10
digit_below byte h = grind (arith, nat_tests)

-- a digit more, in numbers that saturate
pub number_more : (digits : List ℕ) (i number product digit next : ℕ) → i < length digits → length digits ≤ 9
    → list_all is_ascii_digit digits ≡ true → number ≡ decimal (take i digits) → number < 10 ^ i
    → product ≡ min (number * 10) 18446744073709551615 → digit ≡ get_or digits i 0 - 48
    → next ≡ min (product + digit) 18446744073709551615
    → (next ≡ decimal (take (i + 1) digits)) × (next < 10 ^ (i + 1))
number_more digits i number product digit next more few all value below p d n =
    let less : digit < 10 = omega
    (arith, d, digit_below (get_or digits i 0) (AllPass-from_list_all is_ascii_digit digits all i 0 more)) in
    let bound = tens i (omega (arith, more, few)) in
    let step = decimal_more digits i more in
    let power = pow_more 10 i in
    (omega (arith, less, bound, step, value, below, p, d, n), omega (arith, less, bound, below, p, n, power))

-- one byte more in front
front_step : (test : ℕ → Bool) (x : ℕ) (xs : List ℕ) (b : Bool) → test x ≡ b
    → list_all test (take (prefix_len test xs) xs) ≡ true
    → list_all test (take (cond b (1 + prefix_len test xs) 0) (x ∷ xs)) ≡ true
front_step test x xs false e h = refl
front_step test x xs true e h =
    let one : suc (prefix_len test xs) ≡ 1 + prefix_len test xs = omega arith in
    subst (λ m. list_all test (take m (x ∷ xs)) ≡ true) one (rw e h)

-- the bytes that are counted in front pass
pub front_passes : (test : ℕ → Bool) (xs : List ℕ) → list_all test (take (prefix_len test xs) xs) ≡ true
front_passes test [] = refl
front_passes test (x ∷ xs) = front_step test x xs (test x) refl (front_passes test xs)

nine_test : (count : ℕ) → count ≤ 9 → nat_lt 9 count ≡ false
nine_test count h = grind (arith, nat_tests)

-- the marker by its parts
pub ordered_is : (bytes digits rest : List ℕ) (count character first : ℕ) → count ≡ prefix_len is_ascii_digit bytes
    → digits ≡ take count bytes → rest ≡ drop count bytes → Some character ≡ slice_get rest 0 → 0 < count → count ≤ 9
    → ends_number character ≡ true → first ≡ decimal digits
    → Some (record { character = character; first = first; width = count + 1 }) ≡ ordered_marker bytes
ordered_is bytes digits [] count character first n d r at some few is value = cc
ordered_is bytes digits (x ∷ xs) count character first n d r at some few is value =
    let same : character ≡ x = cc in
    let stands = subst (λ byte. ends_number byte ≡ true) same is in
    rw (← n, ← d, ← r, eq_test_false count some, nine_test count few, stands, same, value) refl
