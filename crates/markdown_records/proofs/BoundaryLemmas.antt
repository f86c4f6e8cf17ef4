-- A test of `RecordView` says where characters begin as the kit does, and so which slices of a text there are.
use Rattle.std.proofs.Common.{◌≡◌, ℕ, zero, suc, ◌+◌, ◌<◌, ◌≤◌, true, not, ◌&&◌, nat_le, List, [], ◌∷◌}
use Rattle.std.proofs.Common.{length, arith, Some, None, refl, ⊎_elim}
use Rattle.std.specs.Bool.{Decides}
use Rattle.std.specs.List.{slice_get, slice_index, slice_range}
use Rattle.std.specs.Option.{option_map_or}
use Rattle.std.specs.Str.{IsCharBoundary}
use Rattle.std.proofs.lemmas.Bool.{cases_lt, cond-true, le-leb, leb-true}
use Rattle.std.proofs.lemmas.Bool.Decides.{Decides-and, Decides-like, Decides-not}
use Rattle.markdown_records.specs.RecordView.{is_boundary, slice_of}

decides_byte : (b : ℕ) → Decides (not (nat_le 128 b && nat_le b 191)) (128 ≤ b → 192 ≤ b)
decides_byte b =
    Decides-like (not (nat_le 128 b && nat_le b 191))
    (λ (n : (128 ≤ b) × (b ≤ 191) → ⊥) (low : 128 ≤ b).
    ⊎_elim (λ (lt : b < 192). absurd (n (low, omega (arith, lt)))) (λ (le : 192 ≤ b). le) (cases_lt b 192))
    (λ (f : 128 ≤ b → 192 ≤ b) (p : (128 ≤ b) × (b ≤ 191)). omega (arith, f p.0, p.1))
    (Decides-not (nat_le 128 b && nat_le b 191)
    (Decides-and (nat_le 128 b) (nat_le b 191) (leb-true 128 b, le-leb 128 b) (leb-true b 191, le-leb b 191)))

decides_inside : (text : List ℕ) (at : ℕ)
    → Decides (option_map_or (λ byte. not (nat_le 128 byte && nat_le byte 191)) (slice_get text at) true)
    (at < length text → 128 ≤ slice_index text at → 192 ≤ slice_index text at)
decides_inside [] at = (λ _ h _. absurd (omega (arith, h)), λ _. refl)
decides_inside (b ∷ text) zero =
    Decides-like (not (nat_le 128 b && nat_le b 191)) (λ f _. f) (λ f. f (omega arith)) (decides_byte b)
decides_inside (b ∷ text) (suc at) =
    Decides-like (option_map_or (λ byte. not (nat_le 128 byte && nat_le byte 191)) (slice_get text at) true)
    (λ f (h : suc at < suc (length text)). f (omega (arith, h)))
    (λ f (h : at < length text). f (omega (arith, h))) (decides_inside text at)

-- the test is that of the kit
boundary_decides : (text : List ℕ) (at : ℕ) → Decides (is_boundary text at) (IsCharBoundary text at)
boundary_decides text at =
    Decides-and (nat_le at (length text))
    (option_map_or (λ byte. not (nat_le 128 byte && nat_le byte 191)) (slice_get text at) true)
    (leb-true at (length text), le-leb at (length text)) (decides_inside text at)

-- characters begin and end at the ends
pub slice_found : (text : List ℕ) (at count : ℕ) → IsCharBoundary text at → IsCharBoundary text (at + count)
    → slice_of text at count ≡ Some (slice_range text at (at + count))
slice_found text at count low high =
    cond-true (is_boundary text at && is_boundary text (at + count)) (Some (slice_range text at (at + count))) None
    ((Decides-and (is_boundary text at) (is_boundary text (at + count)) (boundary_decides text at)
    (boundary_decides text (at + count))).1 (low, high))
