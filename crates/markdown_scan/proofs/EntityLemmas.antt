-- The number of a numeric reference: it stays small while its digits are read.
use Rattle.std.proofs.Common.{◌≡◌, ℕ, ◌+◌, ◌*◌, ◌^◌, ◌<◌, ◌≤◌, true, List, Some, length, get_or, take, drop, nat_le}
use Rattle.std.proofs.Common.{codes, arith, lit<, add-one, ap, ◌∙◌, refl}
use Rattle.std.proofs.Math.Nat.{mul-le-mul_right, pow-le-pow_right, pow-suc}
use Rattle.std.proofs.lemmas.Bool.Decides.{nat_tests}
use Rattle.std.proofs.lemmas.List.Sums.{fold_more}
use Rattle.std.proofs.lemmas.List.{length-take, take_min}
use Rattle.std.specs.List.{prefix_len}
use Rattle.std.specs.Char.{digit_value, is_digit}
use Rattle.markdown_scan.specs.Entity.{digits_value, digits_of, numeric_reference, character_of}
use Rattle.markdown_scan.specs.Beginnings.{begins_with}

-- one digit more
pub number_of_more : (radix : ℕ) (digits : List ℕ) (i : ℕ) → i < length digits
    → digits_value radix (take (i + 1) digits)
    ≡ radix * digits_value radix (take i digits) + digit_value (get_or digits i 0)
number_of_more radix digits i h =
    fold_more (λ n digit. radix * n + digit_value digit) 0 digits i 0 h

-- a number of i digits, and one digit more
pub small_more : (radix number digit i : ℕ) → radix ≤ 16 → digit ≤ 36
    → number + 3 ≤ 3 * 16 ^ i → radix * number + digit + 3 ≤ 3 * 16 ^ (i + 1)
small_more radix number digit i base below small =
    let scaled = mul-le-mul_right number base in
    let sixteen : 16 ^ (i + 1) ≡ 16 ^ i * 16 = rw add-one (pow-suc 16 i) in
    omega (arith, scaled, sixteen)

-- a number of at most seven digits is far below 2^32
pub small_fits : (number i : ℕ) → i ≤ 7 → number + 3 ≤ 3 * 16 ^ i → number < 2 ^ 30
small_fits number i few small =
    let power : 16 ^ i ≤ 16 ^ 7 = pow-le-pow_right (lit< tt) few in
    omega (arith, power)

-- as many bytes as there are digits in front are the digits
pub take_digits : (radix : ℕ) (bytes : List ℕ)
    → take (length (digits_of radix bytes)) bytes ≡ digits_of radix bytes
take_digits radix bytes =
    let count = prefix_len (λ b. is_digit b radix) bytes in
    ap (λ n. take n bytes) (length-take count bytes) ∙ take_min count bytes

-- digits that are neither too few nor too many, and a semicolon
pub numbered_is : (start radix most count character : ℕ) (bytes : List ℕ)
    → count ≡ length (digits_of radix (drop start bytes)) → 1 ≤ count → count ≤ most
    → begins_with (codes ";") (drop (start + count) bytes) ≡ true
    → character ≡ character_of (digits_value radix (take count (drop start bytes)))
    → Some (start + count + 1, character) ≡ numeric_reference start radix most bytes
numbered_is start radix most count character bytes many some few closed is =
    let digits = digits_of radix (drop start bytes) in
    let at_least : nat_le 1 (length digits) ≡ true = rw (← many) (grind (arith, nat_tests)) in
    let at_most : nat_le (length digits) most ≡ true = rw (← many) (grind (arith, nat_tests)) in
    let close : begins_with (codes ";") (drop (start + length digits) bytes) ≡ true = rw (← many) closed in
    let value : character ≡ character_of (digits_value radix digits) =
    is ∙ ap (λ ds. character_of (digits_value radix ds)) (ap (λ n. take n (drop start bytes)) many
    ∙ take_digits radix (drop start bytes)) in
    rw (at_least, at_most, close, value, many) refl
