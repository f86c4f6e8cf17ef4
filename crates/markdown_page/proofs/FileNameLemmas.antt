-- What stands before and after the last byte of a kind in a name.
use Rattle.std.proofs.Common.{◌≡◌, ◌∙◌, ℕ, ◌+◌, ◌-◌, ◌<◌, ◌≤◌, List, [], true, not, refl, sym, ap, arith, length, take}
use Rattle.std.proofs.Common.{drop, get_or, ◌==◌}
use Rattle.std.specs.List.{after_last, before_last, suffix_len}
use Rattle.std.specs.Str.{NoCharPasses}
use Rattle.std.specs.Str.Pattern.{RFindsChar, SplitsAroundMatch}
use Rattle.std.proofs.lemmas.Bool.{eq-eqb, eqb-true}
use Rattle.std.proofs.lemmas.List.{get_or-drop, length-drop}
use Rattle.std.proofs.lemmas.Str.{len_utf8_ascii}
use Rattle.std.proofs.lemmas.List.Sums.{suffix_len_is}
use Rattle.std.proofs.lemmas.Str.Pattern.{NoCharPasses-char}
use Rattle.markdown_base.proofs.BoolLemmas.{by_test}

module _ (c : ℕ) (small : c < 128) (name : List ℕ) (n : ℕ) (in_name : n ≤ length name)
    (none : NoCharPasses (λ d. d == c) (drop n name)) (last : 0 < n → get_or name (n - 1) 0 ≡ c) where
  -- no byte from n on is the one that is looked for
  pub other_after : (k : ℕ) → n ≤ k → k < length name → not (get_or name k 0 == c) ≡ true
  other_after k from within =
      by_test (get_or name k 0 == c)
      (λ same.
      let place : n + (k - n) ≡ k = omega (arith, from) in
      let read : get_or (drop n name) (k - n) 0 ≡ c =
      get_or-drop n name (k - n) 0 ∙ ap (λ i. get_or name i 0) place ∙ eqb-true _ _ same in
      let more : k - n < length (drop n name) = rw (length-drop n name) (omega (arith, from, within)) in
      absurd (NoCharPasses-char c (drop n name) (k - n) none small more read))
      (λ other. rw other refl)

  -- so many bytes stand after the last one
  pub count_after : suffix_len (λ b. not (b == c)) name ≡ length name - n
  count_after =
      suffix_len_is (λ b. not (b == c)) name n 0 in_name other_after
      (λ some. rw (eq-eqb _ _ (last some)) refl)

  -- what stands after it
  pub after_last-is : after_last (λ b. b == c) name ≡ drop n name
  after_last-is = ap (λ k. drop k name) (omega (arith, count_after, in_name))

  -- what stands before it
  pub before_last-is : before_last (λ b. b == c) name ≡ take (n - 1) name
  before_last-is = ap (λ k. take k name) (omega (arith, count_after, in_name))

-- the parts that `rsplit_once` gives
pub split_last : (c : ℕ) → c < 128 → (name front back : List ℕ) → SplitsAroundMatch (RFindsChar c) name front back
    → (back ≡ after_last (λ b. b == c) name) × (front ≡ before_last (λ b. b == c) name)
split_last c small name front back split =
    let at = split.2.1 in
    let wide : split.1 ≡ split.0 + 1 = at.ends ∙ ap (λ k. split.0 + k) (len_utf8_ascii c small) in
    let fits : split.1 ≤ length name = omega (arith, split.7) in
    let byte : 0 < split.1 → get_or name (split.1 - 1) 0 ≡ c =
    λ _. ap (λ k. get_or name k 0) (omega (arith, wide)) ∙ at.byte small in (
      split.4 ∙ sym (after_last-is c small name split.1 fits split.2.0 byte),
      split.3 ∙ ap (λ k. take k name) (omega (arith, wide))
          ∙ sym (before_last-is c small name split.1 fits split.2.0 byte),
    )

-- where there is none, all stands after it
pub after_none : (c : ℕ) → c < 128 → (name : List ℕ) → NoCharPasses (λ d. d == c) name
    → name ≡ after_last (λ b. b == c) name
after_none c small name none =
    sym (after_last-is c small name 0 (omega arith) none (λ some. absurd (omega (arith, some))))

-- and nothing before it
pub before_none : (c : ℕ) → c < 128 → (name : List ℕ) → NoCharPasses (λ d. d == c) name
    → before_last (λ b. b == c) name ≡ []
before_none c small name none = before_last-is c small name 0 (omega arith) none (λ some. absurd (omega (arith, some)))
