-- Where a text may be cut: before and after an ASCII byte of what follows a byte.
use Rattle.std.proofs.Common.{◌≡◌, suc, zero, [], ◌∷◌, Bool, true, ◌&&◌, ℕ, ◌+◌, ◌<◌, ◌≤◌, List, length, get_or, take}
use Rattle.std.proofs.Common.{drop, arith, length-drop}
use Rattle.std.specs.Str.{IsUtf8, IsCharBoundary}
use Rattle.std.proofs.lemmas.List.{get_or-drop, get_or-take, length-take}
use Rattle.std.proofs.lemmas.Str.{IsCharBoundary-before_ascii, IsCharBoundary-after_ascii, IsCharBoundary-from_take}
use Rattle.std.proofs.lemmas.Str.{IsUtf8-from_ascii}
use Rattle.std.proofs.lemmas.Bool.Decides.{nat_tests}
use Rattle.std.specs.List.{list_all}
use Rattle.std.specs.Char.{is_ascii}

-- before an ASCII byte of what follows byte i
pub before_ascii_of_rest : (text : List ℕ) (i n : ℕ) → n < length (drop i text) → get_or (drop i text) n 0 < 128
    → IsCharBoundary text (i + n)
before_ascii_of_rest text i n inside ascii =
    let within : i + n < length text = omega (arith, rw length-drop at inside) in
    IsCharBoundary-before_ascii text (i + n) within (rw get_or-drop at ascii)

-- before what follows byte i and n bytes, if that is nothing or begins with an ASCII byte
pub at_ascii_of_rest : (text : List ℕ) (i n : ℕ) → i ≤ length text → n ≤ length (drop i text)
    → (n < length (drop i text) → get_or (drop i text) n 0 < 128) → IsCharBoundary text (i + n)
at_ascii_of_rest text i n start within ascii = (
  omega (arith, start, rw length-drop at within),
  λ inside high.
      let low : get_or (drop i text) n 0 < 128 = ascii (omega (arith, length-drop i text, inside)) in
      absurd (omega (arith, rw get_or-drop at low, high)),
)

-- after an ASCII byte of what follows byte i
pub after_ascii_of_rest : (text : List ℕ) (i n : ℕ) → IsUtf8 text → n < length (drop i text)
    → get_or (drop i text) n 0 < 128
    → IsCharBoundary text (i + n + 1)
after_ascii_of_rest text i n utf8 inside ascii =
    let within : i + n < length text = omega (arith, rw length-drop at inside) in
    IsCharBoundary-after_ascii text (i + n) utf8 within (rw get_or-drop at ascii)

-- after an ASCII byte of so many bytes that follow byte i
pub after_ascii_of_part : (text : List ℕ) (i m n : ℕ) → IsUtf8 text → n < length (take m (drop i text))
    → get_or (take m (drop i text)) n 0 < 128 → IsCharBoundary text (i + n + 1)
after_ascii_of_part text i m n utf8 inside ascii =
    let bound = rw length-take at inside in
    let below : n < m = omega (arith, bound) in
    let rest : n < length (drop i text) = omega (arith, bound) in
    let same = get_or-take m (drop i text) n 0 below in
    after_ascii_of_rest text i n utf8 rest (rw same at ascii)

first_is_ascii : (x : ℕ) (rest : Bool) → (is_ascii x && rest) ≡ true → x < 128
first_is_ascii x rest all = grind (arith, nat_tests)

rest_is_ascii : (x : ℕ) (rest : Bool) → (is_ascii x && rest) ≡ true → rest ≡ true
rest_is_ascii x rest all = grind (arith, nat_tests)

pub ascii_at : (xs : List ℕ) → list_all is_ascii xs ≡ true → (i : ℕ) → get_or xs i 0 < 128
ascii_at [] all i = omega arith
ascii_at (x ∷ xs) all zero = first_is_ascii x (list_all is_ascii xs) all
ascii_at (x ∷ xs) all (suc i) = ascii_at xs (rest_is_ascii x (list_all is_ascii xs) all) i

-- after ASCII bytes
pub after_ascii_bytes : (text : List ℕ) (n : ℕ) → IsUtf8 text → n ≤ length text → list_all is_ascii (take n text) ≡ true
    → IsCharBoundary text n
after_ascii_bytes text n utf8 within all =
    IsCharBoundary-from_take text n utf8 within (IsUtf8-from_ascii (take n text) (ascii_at (take n text) all))
