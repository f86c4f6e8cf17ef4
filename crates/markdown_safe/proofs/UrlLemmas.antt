-- The bytes of a URL before its first colon, byte by byte.
use Rattle.std.proofs.Common.{◌≡◌, ◌≢◌, ◌<◌, ◌≤◌, ◌+◌, ◌++◌, ℕ, true, false, List, [], ◌∷◌, length, get_or, refl, sym}
use Rattle.std.proofs.Common.{ap, ◌∙◌, append_assoc, arith, Option, Some, None, subst, take}
use Rattle.std.proofs.Math.ListN.{drop}
use Rattle.std.specs.Option.{option_map}
use Rattle.std.proofs.lemmas.Bool.{ne_eqb}
use Rattle.std.proofs.lemmas.Bool.Decides.{nat_tests}
use Rattle.std.specs.Char.{is_ascii_whitespace}
use Rattle.std.proofs.lemmas.List.{take_all}
use Rattle.std.proofs.lemmas.List.Sums.{position_or_len_is}
use Rattle.markdown_safe.specs.SafeEvents.{safe_info}
use Rattle.markdown_out.specs.TagHtml.{may_be_in_scheme}
use Rattle.markdown_safe.specs.SafeUrl.{before_colon, is_dropped_byte}
use Rattle.markdown_base.proofs.ListLemmas.{bytes_from}

-- the bytes found so far, before the rest of a scheme
abbrev pub onto : List ℕ → Option (List ℕ) → Option (List ℕ)
onto found rest = option_map (λ more. found ++ more) rest

pub onto-none : (o : Option (List ℕ)) → onto [] o ≡ o
onto-none None = refl
onto-none (Some s) = refl

onto-more : (found : List ℕ) (b : ℕ) (o : Option (List ℕ))
    → onto found (option_map (λ found. b ∷ found) o) ≡ onto (found ++ b ∷ []) o
onto-more found b None = refl
onto-more found b (Some s) = ap Some (sym (append_assoc found (b ∷ []) s))

above : (b : ℕ) → 33 ≤ b → is_dropped_byte b ≡ false
above b h = grind (arith, nat_tests)

below : (b : ℕ) → b < 33 → is_dropped_byte b ≡ true
below b h = grind (arith, nat_tests)

-- a byte that is dropped
pub passed_over : (url found : List ℕ) (i : ℕ) → i < length url → get_or url i 0 < 33
    → onto found (before_colon (drop i url)) ≡ onto found (before_colon (drop (i + 1) url))
passed_over url found i h l = ap (λ u. onto found (before_colon u)) (bytes_from url i h)
    ∙ ap (onto found) (skip (get_or url i 0) (drop (i + 1) url) l)
  where
    skip : (b : ℕ) (rest : List ℕ) → b < 33 → before_colon (b ∷ rest) ≡ before_colon rest
    skip b rest l = rw (below b l) refl

-- a colon
pub at_colon : (url found : List ℕ) (i : ℕ) → i < length url → get_or url i 0 ≡ 58
    → onto found (before_colon (drop i url)) ≡ Some (found ++ [])
at_colon url found i h e = ap (λ u. onto found (before_colon u)) (bytes_from url i h)
    ∙ ap (λ b. onto found (before_colon (b ∷ drop (i + 1) url))) e

-- a byte of a scheme
pub one_more : (url found : List ℕ) (i : ℕ) → i < length url → 33 ≤ get_or url i 0 → get_or url i 0 ≢ 58
    → may_be_in_scheme (get_or url i 0) ≡ true
    → onto found (before_colon (drop i url)) ≡ onto (found ++ get_or url i 0 ∷ []) (before_colon (drop (i + 1) url))
one_more url found i h l n s = ap (λ u. onto found (before_colon u)) (bytes_from url i h)
    ∙ (ap (onto found) (longer (get_or url i 0) (drop (i + 1) url) l n s)
    ∙ onto-more found (get_or url i 0) (before_colon (drop (i + 1) url)))
  where
    longer : (b : ℕ) (rest : List ℕ) → 33 ≤ b → b ≢ 58 → may_be_in_scheme b ≡ true
        → before_colon (b ∷ rest) ≡ option_map (λ found. b ∷ found) (before_colon rest)
    longer b rest l n s = rw (above b l, ne_eqb b 58 n, s) refl

-- a byte that no scheme has
pub no_scheme : (url found : List ℕ) (i : ℕ) → i < length url → 33 ≤ get_or url i 0 → get_or url i 0 ≢ 58
    → may_be_in_scheme (get_or url i 0) ≡ false
    → onto found (before_colon (drop i url)) ≡ None
no_scheme url found i h l n s = ap (λ u. onto found (before_colon u)) (bytes_from url i h)
    ∙ ap (onto found) (none (get_or url i 0) (drop (i + 1) url) l n s)
  where
    none : (b : ℕ) (rest : List ℕ) → 33 ≤ b → b ≢ 58 → may_be_in_scheme b ≡ false → before_colon (b ∷ rest) ≡ None
    none b rest l n s = rw (above b l, ne_eqb b 58 n, s) refl

-- a text up to its first white space
pub word_ends : (bytes text : List ℕ) (at : ℕ) → bytes ≡ text → at ≤ length bytes
    → ((k : ℕ) → k < at → is_ascii_whitespace (get_or bytes k 0) ≡ false)
    → (at < length bytes → is_ascii_whitespace (get_or bytes at 0) ≡ true) → take at text ≡ safe_info text
word_ends bytes text at same h before here =
    subst (λ xs. take at xs ≡ safe_info xs) same
    (ap (λ n. take n bytes) (sym (position_or_len_is is_ascii_whitespace bytes at 0 h before here)))

-- or all of it
pub word_is_all : (bytes text : List ℕ) (at : ℕ) → bytes ≡ text → at ≤ length bytes → length bytes ≤ at
    → ((k : ℕ) → k < at → is_ascii_whitespace (get_or bytes k 0) ≡ false) → text ≡ safe_info text
word_is_all bytes text at same h all before =
    let whole : take at text ≡ text = take_all at text (let e = ap length same in omega arith) in
    sym whole ∙ word_ends bytes text at same h before (λ l. absurd (omega arith))
