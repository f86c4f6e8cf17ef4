-- What is written for a character stays inside.
use Rattle.std.proofs.Common.{◌≡◌, ◌∙◌, ℕ, suc, ◌<◌, ◌≤◌, List, [], ◌∷◌, ◌++◌, true, false, refl, sym, ap, arith}
use Rattle.std.proofs.Common.{length, get_or, ◌==◌, encode_utf8, flat_map, append-nil, nat_lt}
use Rattle.std.proofs.lemmas.Bool.Decides.{nat_tests}
use Rattle.std.proofs.lemmas.Str.{inside_one}
use Rattle.markdown_base.specs.Bytes.{ampersand, double_quote, greater_than, less_than}
use Rattle.markdown_base.proofs.BoolLemmas.{by_test}
use Rattle.markdown_page.specs.EscapedText.{is_inert_byte, stays_inside}
use Rattle.markdown_page.specs.PageHtml.{html_char}

-- a byte that is none of the four is no `&`
inert_other : (b : ℕ) → is_inert_byte b ≡ true → (b == ampersand) ≡ false
inert_other b inert = grind (arith, nat_tests)

-- bytes that are none of the four stay inside
pub inert_over : (xs rest : List ℕ) → ((k : ℕ) → k < length xs → is_inert_byte (get_or xs k 0) ≡ true)
    → stays_inside rest ≡ true → stays_inside (xs ++ rest) ≡ true
inert_over [] rest each stays = stays
inert_over (x ∷ xs) rest each stays =
    let inert : is_inert_byte x ≡ true = each 0 (omega arith) in
    rw (inert, inert_other x inert) (inert_over xs rest (λ k within. each (suc k) (omega (arith, within))) stays)

-- a byte of a longer character is none of the four
inert_large : (b : ℕ) → 128 ≤ b → is_inert_byte b ≡ true
inert_large b large = grind (arith, nat_tests)

-- the bytes of a character that is none of the four are none of them
inert_bytes : (c : ℕ) → is_inert_byte c ≡ true → (k : ℕ) → k < length (encode_utf8 c)
    → is_inert_byte (get_or (encode_utf8 c) k 0) ≡ true
inert_bytes c inert k within =
    by_test (nat_lt (get_or (encode_utf8 c) k 0) 128)
    (λ small.
    let same : c ≡ get_or (encode_utf8 c) k 0 =
    inside_one c [] (encode_utf8 c) k (sym (append-nil (encode_utf8 c))) within (grind (arith, nat_tests)) in
    ap is_inert_byte (sym same) ∙ inert)
    (λ large. inert_large (get_or (encode_utf8 c) k 0) (grind (arith, nat_tests)))

-- what is written for a character stays inside
pub inside_char : (c : ℕ) (rest : List ℕ) → stays_inside rest ≡ true → stays_inside (html_char c ++ rest) ≡ true
inside_char c rest stays =
    by_test (c == less_than) (λ e. rw e stays) (λ less.
    by_test (c == greater_than) (λ e. rw (less, e) stays) (λ greater.
    by_test (c == ampersand) (λ e. rw (less, greater, e) stays) (λ and_sign.
    by_test (c == double_quote) (λ e. rw (less, greater, and_sign, e) stays) (λ quote.
    rw (less, greater, and_sign, quote)
    (inert_over (encode_utf8 c) rest (inert_bytes c (rw (less, greater, and_sign, quote) refl)) stays)))))

-- so does what is written for a list of characters
pub inside_all : (cs : List ℕ) → stays_inside (flat_map html_char cs) ≡ true
inside_all [] = refl
inside_all (c ∷ cs) = inside_char c (flat_map html_char cs) (inside_all cs)
