-- Where no thematic break begins: at none of the bytes before one that cannot belong to it.
use Rattle.std.proofs.Common.{◌≡◌, ℕ, zero, suc, ◌+◌, ◌-◌, ◌<◌, ◌≤◌, List, [], ◌∷◌, Bool, true, false, ⊎_elim, length}
use Rattle.std.proofs.Common.{drop, refl, sym, ◌∙◌, ap, subst, arith, ◌&&◌, ◌==◌, slice_range}
use Rattle.std.proofs.lemmas.Bool.{eqb-true, ltb-true, cases_Bool, or_cases}
use Rattle.std.proofs.lemmas.Bool.Decides.{nat_tests}
use Rattle.std.specs.Prelude.{nat_lt}
use Rattle.std.specs.List.{prefix_len}
use Rattle.markdown_lines.specs.Lines.{is_space_or_tab}
use Rattle.markdown_lines.proofs.PositionsLemmas.{rest_of_part}
use Rattle.markdown_lines.specs.ThematicBreaks.{IsBrokenOff, broken_off, is_break_mark, is_of_break, is_thematic_break}
use Rattle.markdown_lines.specs.UnbrokenLines.{IsUnbroken}
use Rattle.markdown_base.proofs.BoolLemmas.{less_is_other, and_second}

white_is_no_mark : (byte : ℕ) → is_space_or_tab byte ≡ true → is_break_mark byte ≡ false
white_is_no_mark byte white = grind (arith, nat_tests)

middle_false : (x y z : Bool) → y ≡ false → (x && y && z) ≡ false
middle_false true y z fails = rw fails refl
middle_false false y z fails = refl

-- no break begins here, if a byte that cannot belong to it follows those that may
none_here : (mark byte : ℕ) (bytes : List ℕ) → is_of_break mark byte ≡ true
    → prefix_len (is_of_break mark) (byte ∷ bytes) < length (byte ∷ bytes) → is_thematic_break (byte ∷ bytes) ≡ false
none_here mark byte bytes is more =
    ⊎_elim (λ (same : (byte == mark) ≡ true).
    let less = subst (λ m. prefix_len (is_of_break m) (byte ∷ bytes) < length (byte ∷ bytes))
    (sym (eqb-true byte mark same)) more in
    middle_false (is_break_mark byte) _ _ (less_is_other _ _ less))
    (λ (white : is_space_or_tab byte ≡ true). rw (white_is_no_mark byte white) refl)
    (or_cases (byte == mark) (is_space_or_tab byte) is)

-- nor at the bytes after this one
none_before : (mark number : ℕ) (bytes : List ℕ) → number < prefix_len (is_of_break mark) bytes
    → prefix_len (is_of_break mark) bytes < length bytes → is_thematic_break (drop number bytes) ≡ false
none_before mark number [] few more = absurd (omega (arith, few))
none_before mark zero (byte ∷ bytes) few more =
    ⊎_elim (λ (is : is_of_break mark byte ≡ true). none_here mark byte bytes is more)
    (λ (other : is_of_break mark byte ≡ false). absurd (omega (arith, rw other at few)))
    (cases_Bool (is_of_break mark byte))
none_before mark (suc number) (byte ∷ bytes) few more =
    ⊎_elim (λ (is : is_of_break mark byte ≡ true).
    none_before mark number bytes (omega (arith, rw is at few)) (omega (arith, rw is at more)))
    (λ (other : is_of_break mark byte ≡ false). absurd (omega (arith, rw other at few)))
    (cases_Bool (is_of_break mark byte))

-- a character of breaks, and bytes of its kind before another byte
abbrev is_begun : ℕ → List ℕ → Bool
is_begun mark bytes =
    is_break_mark mark && nat_lt (prefix_len (is_of_break mark) (mark ∷ bytes)) (length (mark ∷ bytes))

begun_less : (mark : ℕ) (bytes : List ℕ) → is_begun mark bytes ≡ true
    → prefix_len (is_of_break mark) (mark ∷ bytes) < length (mark ∷ bytes)
begun_less mark bytes begun = ltb-true _ _ (and_second (is_break_mark mark) _ begun)

-- so none does at the bytes that were broken off
none_broken_off : (number : ℕ) (bytes : List ℕ) → number < broken_off bytes
    → is_thematic_break (drop number bytes) ≡ false
none_broken_off number [] few = absurd (omega (arith, few))
none_broken_off number (mark ∷ bytes) few =
    ⊎_elim (λ (begun : is_begun mark bytes ≡ true).
    none_before mark number (mark ∷ bytes) (rw begun at few) (begun_less mark bytes begun))
    (λ (not_begun : is_begun mark bytes ≡ false). absurd (omega (arith, rw not_begun at few))) (cases_Bool (is_begun
    mark bytes))

-- no break begins at the byte offsets of what was broken off in a text
pub unbroken : (text : List ℕ) (at stop length : ℕ) (to : ℕ) → IsBrokenOff (slice_range text at stop) length
    → to ≤ at + length → IsUnbroken text stop at to
unbroken text at stop length to broken within here low high =
    let place : at + (here - at) ≡ here = omega (arith, low) in
    ap (λ (bytes : List ℕ). is_thematic_break bytes)
    (sym (rest_of_part text at stop (here - at) ∙ ap (λ n. slice_range text n stop) place))
    ∙ none_broken_off (here - at) (slice_range text at stop) (omega (arith, low, high, within, broken.value))
