-- Slices of a text, and slices of those.
use Rattle.std.proofs.Common.{◌≡◌, ℕ, zero, suc, ◌+◌, ◌-◌, ◌≤◌, List, [], length, take, drop, refl, sym, ap, ◌∙◌, arith}
use Rattle.std.specs.Prelude.{min, slice_range}
use Rattle.std.specs.declared.ops.Range.{Range}
use Rattle.std.proofs.Math.Logic.{∥∥₁_map}
use Rattle.std.proofs.lemmas.List.{drop-drop, take_all}
use Rattle.markdown_document.specs.Origins.{IsSliceWithin, Origin}
use Rattle.markdown_document.specs.PlacedNodes.{IsSlicedOf}
use Rattle.markdown_document.proofs.OriginLemmas.{slice_wider}
use Rattle.markdown_base.proofs.ListLemmas.{take_of_take, drop_of_take}

-- the bytes between two byte offsets of a text are a slice of it, and so are all its bytes
pub slice_between : (text : List ℕ) (start end : ℕ) (bytes : List ℕ) → bytes ≡ take (end - start) (drop start text)
    → IsSliceWithin text start end bytes
slice_between text start end bytes e = ∣ (record { start = start; end = end }, omega arith, omega arith, e) ∣₁

pub slice_whole : (text : List ℕ) → IsSliceWithin text 0 (length text) text
slice_whole text =
    let all : length text - 0 ≡ length text = omega arith in
    slice_between text 0 (length text) text
    (sym (ap (λ n. take n text) all ∙ take_all (length text) text (omega arith)))

first_of_none : (n : ℕ) → let none : List ℕ = [] in none ≡ take n none
first_of_none zero = refl
first_of_none (suc n) = refl

slice_twice : (text : List ℕ) (a b c d : ℕ)
    → slice_range (slice_range text a b) c d ≡ take ((a + min d (b - a)) - (a + c)) (drop (a + c) text)
slice_twice text a b c d =
    let n = min (d - c) (b - a - c) in
    let e : n ≡ (a + min d (b - a)) - (a + c) = omega arith in
    ap (λ xs. take (d - c) xs) (drop_of_take c (b - a) (drop a text))
    ∙ take_of_take (d - c) (b - a - c) (drop c (drop a text))
    ∙ ap (λ xs. take n xs) (drop-drop c a text) ∙ ap (λ k. take k (drop (a + c) text)) e

-- a slice of a slice of a text is a slice of the text
pub slice_of_slice : (text : List ℕ) (a b c d : ℕ) (bytes : List ℕ) → IsSliceWithin (slice_range text a b) c d bytes
    → IsSliceWithin text (a + c) (a + d) bytes
slice_of_slice text a b c d bytes h =
    ∥∥₁_map h (λ (p : (range : Range ℕ) × (c ≤ range.start) × (range.end ≤ d)
    × (bytes ≡ slice_range (slice_range text a b) range.start range.end)). (
      record { start = a + p.0.start; end = a + min p.0.end (b - a) },
      omega (arith, p.1),
      omega (arith, p.2),
      p.3 ∙ slice_twice text a b p.0.start p.0.end,
    ))

-- and within the byte offsets of the first slice
pub slice_inside : (text : List ℕ) (a b end : ℕ) (bytes : List ℕ) → a ≤ b → IsSliceWithin (slice_range text a b) 0 end
    bytes
    → IsSliceWithin text a b bytes
slice_inside text a b end bytes order h =
    ∥∥₁_map h (λ (p : (range : Range ℕ) × (0 ≤ range.start) × (range.end ≤ end)
    × (bytes ≡ slice_range (slice_range text a b) range.start range.end)). (
      record { start = a + p.0.start; end = a + min p.0.end (b - a) },
      omega arith,
      omega (arith, order),
      p.3 ∙ slice_twice text a b p.0.start p.0.end,
    ))

pub sliced_inside : (text : List ℕ) (a b end : ℕ) (origin : Origin) (bytes : List ℕ) → a ≤ b
    → IsSlicedOf (slice_range text a b) 0 end origin bytes → IsSlicedOf text a b origin bytes
sliced_inside text a b end origin bytes order h = λ is. slice_inside text a b end bytes order (h is)

pub sliced_wider : (text : List ℕ) (start end start' end' : ℕ) (origin : Origin) (bytes : List ℕ) → start' ≤ start
    → end ≤ end'
    → IsSlicedOf text start end origin bytes → IsSlicedOf text start' end' origin bytes
sliced_wider text start end start' end' origin bytes low high h = λ is. slice_wider text start end start' end' bytes low
    high (h is)
