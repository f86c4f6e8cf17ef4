-- How large positions are, and the positions that are kept.
use Rattle.std.proofs.Common.{◌≡◌, ◌≤◌, ◌<◌, ◌+◌, ◌*◌, ◌^◌, ℕ, zero, suc, true, false, List, [], ◌∷◌, ◌++◌, Some, arith}
use Rattle.std.proofs.Common.{Bool, ap, length, refl, slice_get, slice_index}
use Rattle.std.proofs.lemmas.Option.{slice_get_past}
use Rattle.markdown_positions.specs.Positions.{is_first_byte, is_line_end, next_position, position_in}
use Rattle.markdown_positions.specs.Samples.{AreSamples}
use Rattle.markdown_positions.specs.declared.position.Position.{Position}

by_test : {P : Type 0} (b : Bool) → (b ≡ true → P) → (b ≡ false → P) → P
by_test true t f = t refl
by_test false t f = f refl

-- neither number is greater than the offset and one
pub record IsAtMost (p : Position) (at : ℕ) : Type 0 where
  pub line : p.line ≤ at + 1
  pub column : p.column ≤ at + 1

next_at_most : (bytes : List ℕ) (at : ℕ) (p : Position) → IsAtMost p at → IsAtMost (next_position bytes at p) (suc at)
next_at_most bytes at p m = by_test (is_line_end bytes at)
    (λ e. rw e (record { line = omega (arith, m.line); column = omega arith }))
    (λ e. by_test (is_first_byte (slice_index bytes at))
    (λ b. rw (e, b) (record { line = omega (arith, m.line); column = omega (arith, m.column) }))
    (λ b. rw (e, b) (record { line = omega (arith, m.line); column = omega (arith, m.column) })))

pub at_most : (bytes : List ℕ) (at : ℕ) → IsAtMost (position_in bytes at) at
at_most bytes zero = record { line = omega arith; column = omega arith }
at_most bytes (suc at) = next_at_most bytes at (position_in bytes at) (at_most bytes at)

-- so they are small
pub small : (bytes : List ℕ) (at : ℕ) (p : Position) → p ≡ position_in bytes at → at < length bytes
    → length bytes < 2 ^ 63 → (p.line < 2 ^ 63) × (p.column < 2 ^ 63)
small bytes at p is within few =
    let m = at_most bytes at in
    (rw is (omega (arith, m.line, within, few)), rw is (omega (arith, m.column, within, few)))

-- one more is kept
pub get_more : (f : ℕ → Position) (items : List Position) (p : Position)
    → ((k : ℕ) → k < length items → slice_get items k ≡ Some (f k)) → p ≡ f (length items)
    → (k : ℕ) → k < length (items ++ p ∷ []) → slice_get (items ++ p ∷ []) k ≡ Some (f k)
get_more f [] p h e zero b = ap Some e
get_more f [] p h e (suc k) b = absurd (omega (arith, b))
get_more f (x ∷ items) p h e zero b = h 0 (omega arith)
get_more f (x ∷ items) p h e (suc k) b =
    get_more (λ k. f (suc k)) items p (λ k b. h (suc k) (omega (arith, b))) e k (omega (arith, b))

-- all are kept where fewer than 64 bytes are left
pub all_kept : (bytes : List ℕ) (items : List Position) (at : ℕ) → at + 64 ≡ length items * 64
    → length bytes < at + 64
    → ((k : ℕ) → k < length items → slice_get items k ≡ Some (position_in bytes (k * 64))) → AreSamples bytes items
all_kept bytes items at count few are k within = are k (omega (arith, count, few, within))

-- there is one for each multiple of 64 up to the end
pub not_past : (bytes : List ℕ) (items : List Position) (k : ℕ) → AreSamples bytes items → k * 64 ≤ length bytes
    → length items ≤ k → ⊥
not_past bytes items k are within past =
    let kept = are k within in
    let none = slice_get_past items k past in
    cc (kept, none)
