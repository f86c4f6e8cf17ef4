-- Laws of bytes that are examined together, for higher crates: of a slice of bytes, and of a test that no byte passes.
-- A scan that passes over many bytes at once cites `none_further`.
use Rattle.std.proofs.Common.{◌≡◌, ℕ, zero, suc, ◌+◌, ◌-◌, ◌<◌, ◌≤◌, List, [], ◌∷◌, Bool, true, false, length, get_or}
use Rattle.std.proofs.Common.{refl, sym, ap, ◌∙◌}
use Rattle.std.proofs.Common.{arith, slice_range, slice_index, ⊎_elim, drop, length-take-le, length-drop}
use Rattle.std.proofs.lemmas.Bool.{cases_lt}
use Rattle.std.proofs.lemmas.List.{get_or-drop, get_or-take}
use Rattle.std.specs.Prelude.{◌||◌}
use Rattle.std.specs.List.{list_any}

-- if a disjunction is false, both sides are
pub neither : (x y : Bool) → (x || y) ≡ false → (x ≡ false) × (y ≡ false)
neither true y h = cc
neither false y h = (refl, h)

-- if no byte of a list passes a test, the byte at an offset does not
pub none_at : (test : ℕ → Bool) (bytes : List ℕ) (at : ℕ) → at < length bytes → list_any test bytes ≡ false
    → test (get_or bytes at 0) ≡ false
none_at test [] at h e = absurd (omega (arith, h))
none_at test (byte ∷ bytes) zero h e = let both = neither (test byte) (list_any test bytes) e in both.0
none_at test (byte ∷ bytes) (suc at) h e =
    let both = neither (test byte) (list_any test bytes) e in none_at test bytes at (omega (arith, h)) both.1

-- the byte at an offset of a slice
pub byte_of_part : (bytes : List ℕ) (start end at : ℕ) → at < end - start
    → get_or (slice_range bytes start end) at 0 ≡ get_or bytes (start + at) 0
byte_of_part bytes start end at h = get_or-take (end - start) (drop start bytes) at 0 h ∙ get_or-drop start bytes at 0

-- a slice that ends within the bytes has the length of its range
pub part_length : (bytes : List ℕ) (start end : ℕ) → end ≤ length bytes → length (slice_range bytes start end)
    ≡ end - start
part_length bytes start end h = length-take-le (end - start) (drop start bytes) (omega (arith, length-drop start bytes))

-- if no byte passes a test from one offset up to a second, nor from there up to a third, none does from the first up to
-- the third
pub none_further : (test : ℕ → Bool) (bytes : List ℕ) (from start stop : ℕ) → start ≤ stop → stop ≤ length bytes
    → ((at : ℕ) → from ≤ at → at < start → test (slice_index bytes at) ≡ false)
    → list_any test (slice_range bytes start stop) ≡ false
    → (at : ℕ) → from ≤ at → at < stop → test (slice_index bytes at) ≡ false
none_further test bytes from start stop order within before none at low high =
    ⊎_elim (λ (h : at < start). before at low h)
    (λ (h : start ≤ at).
    let here = none_at test (slice_range bytes start stop) (at - start)
    (omega (arith, part_length bytes start stop within, h, high)) none in
    let place : start + (at - start) ≡ at = omega (arith, h) in
    let same = byte_of_part bytes start stop (at - start) (omega (arith, h, high)) ∙ ap (λ k. get_or bytes k 0) place in
    ap test (sym same) ∙ here)
    (cases_lt at start)

-- what is found by either of two tests
any_by_both : (a b x y : Bool) → ((a || x) || (b || y)) ≡ ((a || b) || (x || y))
any_by_both true b x y = refl
any_by_both false true true y = refl
any_by_both false true false y = refl
any_by_both false false x y = refl

-- bytes that hold one which passes either of two tests
pub list_any-either : (p q either : ℕ → Bool) → ((byte : ℕ) → either byte ≡ (p byte || q byte)) → (bytes : List ℕ)
    → (list_any p bytes || list_any q bytes) ≡ list_any either bytes
list_any-either p q either h [] = refl
list_any-either p q either h (byte ∷ bytes) =
    any_by_both (p byte) (q byte) (list_any p bytes) (list_any q bytes)
    ∙ ap (λ (x : Bool). (p byte || q byte) || x) (list_any-either p q either h bytes)
    ∙ ap (λ (x : Bool). x || list_any either bytes) (sym (h byte))
