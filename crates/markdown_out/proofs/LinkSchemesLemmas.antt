-- Whether a destination begins with a scheme, byte by byte.
use Rattle.std.proofs.Common.{◌≡◌, ◌≢◌, ◌<◌, ◌+◌, ℕ, true, false, List, ◌∷◌, length, get_or, refl, ap, ◌∙◌}
use Rattle.std.proofs.Math.ListN.{drop}
use Rattle.std.proofs.lemmas.Bool.{ne_eqb}
use Rattle.markdown_out.specs.TagHtml.{may_be_in_scheme, scheme_goes_on}
use Rattle.markdown_base.proofs.ListLemmas.{bytes_from}

-- a colon ends a scheme
pub at_colon : (bytes : List ℕ) (i : ℕ) → i < length bytes → get_or bytes i 0 ≡ 58
    → scheme_goes_on (drop i bytes) ≡ true
at_colon bytes i h e = ap scheme_goes_on (bytes_from bytes i h) ∙ ap (λ b. scheme_goes_on (b ∷ drop (i + 1) bytes)) e

-- a byte of a scheme leaves it to those after it
pub one_more : (bytes : List ℕ) (i : ℕ) → i < length bytes → get_or bytes i 0 ≢ 58
    → may_be_in_scheme (get_or bytes i 0) ≡ true
    → scheme_goes_on (drop i bytes) ≡ scheme_goes_on (drop (i + 1) bytes)
one_more bytes i h n s = ap scheme_goes_on (bytes_from bytes i h) ∙ rw (ne_eqb (get_or bytes i 0) 58 n, s) refl

-- no other byte does
pub no_more : (bytes : List ℕ) (i : ℕ) → i < length bytes → get_or bytes i 0 ≢ 58
    → may_be_in_scheme (get_or bytes i 0) ≡ false → scheme_goes_on (drop i bytes) ≡ false
no_more bytes i h n s = ap scheme_goes_on (bytes_from bytes i h) ∙ rw (ne_eqb (get_or bytes i 0) 58 n, s) refl
