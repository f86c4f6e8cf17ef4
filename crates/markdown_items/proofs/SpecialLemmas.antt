-- Bytes that are tested together.
use Rattle.std.proofs.Common.{◌≡◌, ℕ, ◌+◌, ◌-◌, ◌<◌, ◌≤◌, List, [], ◌∷◌, Bool, true, false, length, get_or, refl, sym}
use Rattle.std.proofs.Common.{ap, ◌∙◌, arith, slice_range, slice_index, ⊎_elim, inl, inr}
use Rattle.std.proofs.lemmas.Bool.{or_from, and_parts, cases_lt}
use Rattle.std.proofs.lemmas.Bool.Decides.{eqb_tells}
use Rattle.std.specs.Prelude.{◌&&◌, ◌==◌, not, min, codes}
use Rattle.std.specs.List.{list_all, list_any}
use Rattle.std.proofs.Math.Bool.{and-false}
use Rattle.markdown_base.proofs.ByteListLemmas.{byte_of_part, part_length}
use Rattle.markdown_items.specs.LineItems.{special_bytes, is_dash_byte, is_special, is_plain, IsFirstSpecial}

-- a byte that passes a test is not one of the bytes that fail it
never : (test : ℕ → Bool) (marks : List ℕ) (byte : ℕ) → list_all (λ b. not (test b)) marks ≡ true → test byte ≡ true
    → list_any (λ b. b == byte) marks ≡ false
never test [] byte all h = refl
never test (m ∷ ms) byte all h =
    let both = and_parts (not (test m)) (list_all (λ b. not (test b)) ms) all in
    elim (eqb_tells m byte) [
      | inl same ↦ cc (both.0, ap not (ap test same.1 ∙ h))
      | inr other ↦ rw other.0 (never test ms byte both.1 h)
    ]

not_both : (x y : Bool) → x ≡ false → (x && y) ≡ false
not_both x y p = rw p refl

-- a plain byte is not special
plain_is : (dashes : Bool) (byte : ℕ) → is_plain dashes byte ≡ true → is_special dashes byte ≡ false
plain_is true byte h =
    or_from _ _ (never (is_plain true) special_bytes byte refl h)
    (not_both _ true (never (is_plain true) (codes "-.") byte refl h))
plain_is false byte h =
    or_from _ _ (never (is_plain false) special_bytes byte refl h) (and-false (is_dash_byte byte))

-- among plain bytes none is special
pub none_special : (dashes : Bool) (bytes : List ℕ) → list_all (is_plain dashes) bytes ≡ true
    → list_any (is_special dashes) bytes ≡ false
none_special dashes [] h = refl
none_special dashes (b ∷ bs) h =
    let both = and_parts (is_plain dashes b) (list_all (is_plain dashes) bs) h in
    or_from (is_special dashes b) (list_any (is_special dashes) bs) (plain_is dashes b both.0)
    (none_special dashes bs both.1)

-- if no byte before a slice is special, nor any of the first bytes of the slice, none is up to there
pub plain_through : (dashes : Bool) (bytes : List ℕ) (from start stop before : ℕ) → start ≤ stop → stop ≤ length bytes
    → ((at : ℕ) → from ≤ at → at < start → is_special dashes (slice_index bytes at) ≡ false)
    → IsFirstSpecial dashes (slice_range bytes start stop) 0 (length (slice_range bytes start stop)) before
    → (at : ℕ) → from ≤ at → at < start + before → is_special dashes (slice_index bytes at) ≡ false
plain_through dashes bytes from start stop before order within earlier first at low high =
    ⊎_elim (λ (h : at < start). earlier at low h)
    (λ (h : start ≤ at).
    let few = first.high in
    let inside : at - start < stop - start = omega (arith, h, high, few, part_length bytes start stop within) in
    let here = first.plain (at - start) (omega arith) (omega (arith, h, high)) in
    let place : start + (at - start) ≡ at = omega (arith, h) in
    let same = byte_of_part bytes start stop (at - start) inside ∙ ap (λ k. get_or bytes k 0) place in
    ap (is_special dashes) (sym same) ∙ here)
    (cases_lt at start)

-- if no byte before a slice is special, what is found in it is the first special byte, or `end` if it is after that
pub first_special_in : (dashes : Bool) (bytes : List ℕ) (from end start stop before found : ℕ) → from ≤ start
    → start ≤ stop → stop ≤ length bytes → start ≤ end
    → ((at : ℕ) → from ≤ at → at < start → is_special dashes (slice_index bytes at) ≡ false)
    → IsFirstSpecial dashes (slice_range bytes start stop) 0 (length (slice_range bytes start stop)) before
    → (start + before < end → before < stop - start) → found ≡ min end (start + before)
    → IsFirstSpecial dashes bytes from end found
first_special_in dashes bytes from end start stop before found begun order within ahead earlier first inside is =
    record {
      low = omega (arith, begun, ahead, is);
      high = omega (arith, is);
      plain = λ at low high. plain_through dashes bytes from start stop before order within earlier first at low
          (omega (arith, is, high));
      stops = λ (h : found < end).
          let place : found ≡ start + before = omega (arith, is, h) in
          let inner : before < stop - start = inside (omega (arith, place, h)) in
          ap (λ at. is_special dashes (get_or bytes at 0)) place
          ∙ (ap (is_special dashes) (sym (byte_of_part bytes start stop before inner))
          ∙ first.stops (omega (arith, inner, part_length bytes start stop within)));
    }
