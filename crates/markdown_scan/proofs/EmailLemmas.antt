-- The labels of a domain: those up to a period, and those after it.
use Rattle.std.proofs.Common.{◌≡◌, ℕ, suc, ◌+◌, ◌-◌, ◌≤◌, ◌<◌, Bool, true, false, not, ◌&&◌, ◌==◌, List, [], ◌∷◌}
use Rattle.std.proofs.Common.{length, take, drop, cond, eq-or-lt_of_le, inl, inr, refl, sym, ap, ap₂, ◌∙◌, arith}
use Rattle.std.proofs.Common.{one-add, suc-add, length-drop}
use Rattle.std.proofs.Math.Seq.{take-length}
use Rattle.std.specs.List.{list_all, prefix_len}
use Rattle.markdown_base.specs.Bytes.{full_stop}
use Rattle.markdown_scan.specs.EmailAutolink.{are_labels, cut_at_periods, is_label, put_first}

abbrev pub not_period : ℕ → Bool
not_period b = not (b == full_stop)

-- bytes without a period are one piece
whole_step : (t : Bool) (b n : ℕ) (bytes : List ℕ) (pieces : List (List ℕ))
    → (n ≡ length bytes → pieces ≡ bytes ∷ []) → cond (not t) (1 + n) 0 ≡ suc (length bytes)
    → cond t ([] ∷ pieces) (put_first b pieces) ≡ (b ∷ bytes) ∷ []
whole_step true b n bytes pieces rest e = absurd (omega (arith, e))
whole_step false b n bytes pieces rest e =
    let same : n ≡ length bytes = omega (arith, e) in ap (put_first b) (rest same)

one_piece : (bytes : List ℕ) → prefix_len not_period bytes ≡ length bytes → cut_at_periods bytes ≡ bytes ∷ []
unfolding cut_at_periods
one_piece [] e = refl
one_piece (b ∷ bytes) e =
    whole_step (b == full_stop) b (prefix_len not_period bytes) bytes (cut_at_periods bytes) (one_piece bytes) e

-- others are the piece before their first period, and the pieces after it
first_step : (t : Bool) (b n : ℕ) (bytes : List ℕ) (pieces : List (List ℕ))
    → pieces ≡ cut_at_periods bytes
    → (n < length bytes → pieces ≡ take n bytes ∷ cut_at_periods (drop (n + 1) bytes))
    → cond (not t) (1 + n) 0 < suc (length bytes)
    → cond t ([] ∷ pieces) (put_first b pieces)
    ≡ take (cond (not t) (1 + n) 0) (b ∷ bytes) ∷ cut_at_periods (drop (cond (not t) (1 + n) 0 + 1) (b ∷ bytes))
first_step true b n bytes pieces all rest lt = ap (λ ps. [] ∷ ps) all
first_step false b n bytes pieces all rest lt =
    let within : n < length bytes = omega (arith, lt) in
    let after : drop (1 + n + 1) (b ∷ bytes) ≡ drop (n + 1) bytes =
    ap (λ k. drop k (b ∷ bytes)) (ap (λ k. k + 1) (one-add n) ∙ suc-add n 1) in
    ap (put_first b) (rest within)
    ∙ ap₂ (λ k bs. take k (b ∷ bytes) ∷ cut_at_periods bs) (sym (one-add n)) (sym after)

first_piece : (bytes : List ℕ) → prefix_len not_period bytes < length bytes
    → cut_at_periods bytes
    ≡ take (prefix_len not_period bytes) bytes ∷ cut_at_periods (drop (prefix_len not_period bytes + 1) bytes)
unfolding cut_at_periods
first_piece [] lt = absurd (omega (arith, lt))
first_piece (b ∷ bytes) lt =
    first_step (b == full_stop) b (prefix_len not_period bytes) bytes (cut_at_periods bytes) refl (first_piece bytes) lt

-- where the first piece is no label, they are no labels
pub labels_fail : (n : ℕ) (bytes : List ℕ) → n ≡ prefix_len not_period bytes → n ≤ length bytes
    → is_label (take n bytes) ≡ false → are_labels bytes ≡ false
labels_fail n bytes many within fails =
    elim (eq-or-lt_of_le within) [
      | inl whole ↦
          ap (list_all is_label) (one_piece bytes (sym many ∙ whole))
          ∙ ap (λ t. t && true) (ap is_label (sym (ap (λ k. take k bytes) whole ∙ take-length bytes)) ∙ fails)
      | inr less ↦
          let lt : prefix_len not_period bytes < length bytes = omega (arith, many, less) in
          ap (list_all is_label) (first_piece bytes lt)
          ∙ ap (λ k. is_label (take k bytes) && are_labels (drop (k + 1) bytes)) (sym many)
          ∙ ap (λ t. t && are_labels (drop (n + 1) bytes)) fails
    ]

-- where it is the only one, they are
pub labels_end : (n : ℕ) (bytes : List ℕ) → n ≡ prefix_len not_period bytes → n ≡ length bytes
    → is_label (take n bytes) ≡ true → are_labels bytes ≡ true
labels_end n bytes many whole passes =
    ap (list_all is_label) (one_piece bytes (sym many ∙ whole))
    ∙ ap (λ t. t && true) (ap is_label (sym (ap (λ k. take k bytes) whole ∙ take-length bytes)) ∙ passes)

-- else the pieces after it decide
pub labels_next : (n : ℕ) (bytes : List ℕ) → n ≡ prefix_len not_period bytes → n < length bytes
    → is_label (take n bytes) ≡ true → are_labels bytes ≡ are_labels (drop (n + 1) bytes)
labels_next n bytes many within passes =
    let lt : prefix_len not_period bytes < length bytes = omega (arith, many, within) in
    ap (list_all is_label) (first_piece bytes lt)
    ∙ ap (λ k. is_label (take k bytes) && are_labels (drop (k + 1) bytes)) (sym many)
    ∙ ap (λ t. t && are_labels (drop (n + 1) bytes)) passes

-- a slice to the end is all that is left
pub to_end : (n : ℕ) (bytes : List ℕ) → take (length bytes - n) (drop n bytes) ≡ drop n bytes
to_end n bytes = ap (λ k. take k (drop n bytes)) (sym (length-drop n bytes)) ∙ take-length (drop n bytes)
