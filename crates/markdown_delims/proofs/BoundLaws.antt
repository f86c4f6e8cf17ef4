-- What the bounds say of a stack, as it changes.
use Rattle.std.proofs.Common.{◌≡◌, ℕ, ◌%◌, ◌<◌, ◌≤◌, min, Bool, true, false, List, [], ◌∷◌, ◌++◌, length, take}
use Rattle.std.proofs.Common.{get_or, inl, inr, refl, ap, sym, ◌∙◌, subst, arith}
use Rattle.std.specs.Prelude.{All, if◌then◌else◌, ◌==◌}
use Rattle.std.proofs.lemmas.List.{take_all, take-take, take-append-le, length-take-le, length-take}
use Rattle.std.proofs.lemmas.List.{length_push, get_or-take}
use Rattle.std.proofs.lemmas.List.Elements.{All-take}
use Rattle.std.proofs.lemmas.Bool.{eqb-true, eqb-false, cond_both, cases_lt}
use Rattle.markdown_delims.specs.declared.run.Delimiter.{Delimiter}
use Rattle.markdown_delims.specs.declared.run.Delimiter.TheVariants.{Star, Underscore, Tilde, Caret}
use Rattle.markdown_delims.specs.declared.run.Run.{Run}
use Rattle.markdown_delims.specs.declared.run.Characters.{Characters}
use Rattle.markdown_delims.specs.declared.bounds.CharacterBounds.{CharacterBounds}
use Rattle.markdown_delims.specs.declared.bounds.LowerBounds.{LowerBounds}
use Rattle.markdown_delims.specs.MayPair.{can_do_both, may_pair, needs_equal_length}
use Rattle.markdown_delims.specs.PairingLaws.{is_tilde_or_caret}
use Rattle.markdown_delims.specs.Bounds.{IsOutOfStep, IsOfBoth, BoundCharacter, BoundStack, remainder_bound}
use Rattle.markdown_delims.specs.Bounds.{character_bound_for, bound_at, bound_for, character_raised_for, raised_at}
use Rattle.markdown_delims.specs.Bounds.{raised_for, character_lowered, lowered, drop_bound}
use Rattle.markdown_delims.proofs.PairTests.{IsOutOfStep-failed, IsOfBoth-failed, may_pair-fails}

-- what holds below a bound still holds below the lesser bound after a cut
All-cut : (P : Characters → Type 0) (stack : List Characters) (n m : ℕ) → All P (take n stack)
    → All P (take (min n m) (take m stack))
All-cut P stack n m a =
    let e : take (min n m) (take m stack) ≡ take (min n m) (take n stack) = take-take (min n m) m stack (omega arith)
    ∙ sym (take-take (min n m) n stack (omega arith)) in
    subst (All P) (sym e) (All-take P (min n m) (take n stack) a)

-- what holds of a whole stack holds below its length
All-whole : (P : Characters → Type 0) (stack : List Characters) → All P stack → All P (take (length stack) stack)
All-whole P stack a = let h : length stack ≤ length stack = omega arith in rw take_all a

pub BoundCharacter-cut : (d : Delimiter) (stack : List Characters) (b : CharacterBounds) (n : ℕ) → n ≤ length stack
    → BoundCharacter d stack b → BoundCharacter d (take n stack) (character_lowered n b)
BoundCharacter-cut d stack b n w h =
    let e : length (take n stack) ≡ n = length-take-le n stack w in
    record {
      cannot_open_within = omega arith;
      zero_within = omega arith;
      one_within = omega arith;
      two_within = omega arith;
      cannot_open = All-cut (IsOfBoth d) stack b.cannot_open n h.cannot_open;
      remainder_zero = All-cut (IsOutOfStep d 0) stack b.remainder_zero n h.remainder_zero;
      remainder_one = All-cut (IsOutOfStep d 1) stack b.remainder_one n h.remainder_one;
      remainder_two = All-cut (IsOutOfStep d 2) stack b.remainder_two n h.remainder_two;
    }

-- what the bounds say, they say of a stack with one more run too
BoundCharacter-push : (d : Delimiter) (stack : List Characters) (c : Characters) (b : CharacterBounds)
    → BoundCharacter d stack b → BoundCharacter d (stack ++ c ∷ []) b
BoundCharacter-push d stack c b h =
    record {
      cannot_open_within = longer h.cannot_open_within;
      zero_within = longer h.zero_within;
      one_within = longer h.one_within;
      two_within = longer h.two_within;
      cannot_open = same (IsOfBoth d) h.cannot_open_within h.cannot_open;
      remainder_zero = same (IsOutOfStep d 0) h.zero_within h.remainder_zero;
      remainder_one = same (IsOutOfStep d 1) h.one_within h.remainder_one;
      remainder_two = same (IsOutOfStep d 2) h.two_within h.remainder_two;
    }
  where
    longer : {n : ℕ} → n ≤ length stack → n ≤ length (stack ++ c ∷ [])
    longer w = rw length_push (omega (arith, w))

    same : (P : Characters → Type 0) {n : ℕ} → n ≤ length stack → All P (take n stack)
        → All P (take n (stack ++ c ∷ []))
    same P {n} w a = rw (take-append-le n stack (c ∷ []) w) a

pub BoundStack-push : (stack : List Characters) (c : Characters) (b : LowerBounds) → BoundStack stack b
    → BoundStack (stack ++ c ∷ []) b
BoundStack-push stack c b h =
    record {
      star = BoundCharacter-push Star stack c b.star h.star;
      underscore = BoundCharacter-push Underscore stack c b.underscore h.underscore;
      tilde_within = rw length_push (omega (arith, h.tilde_within));
      caret_within = rw length_push (omega (arith, h.caret_within));
    }

-- the bound of a remainder, by the remainder
remainder_case : (r : ℕ) (b : CharacterBounds) (P : ℕ → Type 0) → (r ≡ 0 → P b.remainder_zero)
    → (r ≡ 1 → P b.remainder_one) → ((r ≡ 0 → ⊥) × (r ≡ 1 → ⊥) → P b.remainder_two) → P (remainder_bound r b)
remainder_case r b P p q n =
    cond_both (r == 0) b.remainder_zero (if r == 1 then b.remainder_one else b.remainder_two) P
    (λ e. p (eqb-true r 0 e)) (λ e. cond_both (r == 1) b.remainder_one b.remainder_two P (λ f. q (eqb-true r 1 f))
    (λ f. n (eqb-false r 0 e, eqb-false r 1 f)))

module _ (closer : Run) (stack : List Characters) (b : CharacterBounds) where
  out_of_step : needs_equal_length closer.delimiter ≡ false → All (λ c. may_pair c.run closer ≡ false) stack → (r : ℕ)
      → closer.length % 3 ≡ r → All (IsOutOfStep closer.delimiter r) (take (length stack) stack)
  out_of_step n h r e =
      All-whole (IsOutOfStep closer.delimiter r) stack
      (λ k x l. rw (← e) (IsOutOfStep-failed (get_or stack k x) closer n (h k x l)))

  -- the bounds that a failed search read may be raised to the top
  raised : (P : Characters → Type 0) (b : Bool) (m : ℕ) → m ≤ length stack → All P (take m stack)
      → (b ≡ true → All P (take (length stack) stack))
      → (let n : ℕ = if b then length stack else m in (n ≤ length stack) × All P (take n stack))
  raised P true m l a h = (omega arith, h refl)
  raised P false m l a h = (l, a)

  pub BoundCharacter-raised : needs_equal_length closer.delimiter ≡ false → All (λ c. may_pair c.run closer ≡ false)
      stack
      → BoundCharacter closer.delimiter stack b
      → BoundCharacter closer.delimiter stack (character_raised_for closer (length stack) b)
  BoundCharacter-raised n h i =
      let zero = raised (IsOutOfStep closer.delimiter 0) (closer.length % 3 == 0) b.remainder_zero i.zero_within
      i.remainder_zero (λ e. out_of_step n h 0 (eqb-true (closer.length % 3) 0 e)) in
      let one = raised (IsOutOfStep closer.delimiter 1) (closer.length % 3 == 1) b.remainder_one i.one_within
      i.remainder_one (λ e. out_of_step n h 1 (eqb-true (closer.length % 3) 1 e)) in
      let two = raised (IsOutOfStep closer.delimiter 2) (closer.length % 3 == 2) b.remainder_two i.two_within
      i.remainder_two (λ e. out_of_step n h 2 (eqb-true (closer.length % 3) 2 e)) in
      record {
        cannot_open_within = cond_both (can_do_both closer) b.cannot_open (length stack) (λ m. m ≤ length stack)
            (λ _. i.cannot_open_within) (λ _. omega arith);
        zero_within = zero.0;
        one_within = one.0;
        two_within = two.0;
        cannot_open = cond_both (can_do_both closer) b.cannot_open (length stack)
            (λ m. All (IsOfBoth closer.delimiter) (take m stack)) (λ _. i.cannot_open)
            (λ e. All-whole (IsOfBoth closer.delimiter) stack
            (λ k x l. IsOfBoth-failed (get_or stack k x) closer n e (h k x l)));
        remainder_zero = zero.1;
        remainder_one = one.1;
        remainder_two = two.1;
      }

  -- what the bound of the closer's remainder says
  below_remainder : BoundCharacter closer.delimiter stack b
      → All (IsOutOfStep closer.delimiter (closer.length % 3)) (take (remainder_bound (closer.length % 3) b) stack)
  below_remainder i =
      remainder_case (closer.length % 3) b
      (λ m. All (IsOutOfStep closer.delimiter (closer.length % 3)) (take m stack))
      (λ e. rw e i.remainder_zero) (λ e. rw e i.remainder_one)
      (λ e.
      let not_zero : closer.length % 3 ≡ 0 → ⊥ = e.0 in
      let not_one : closer.length % 3 ≡ 1 → ⊥ = e.1 in
      let two : closer.length % 3 ≡ 2 = omega arith in rw two i.remainder_two)

  -- no run below the closer's bound pairs with it
  pub NonePairs-below : BoundCharacter closer.delimiter stack b
      → All (λ c. may_pair c.run closer ≡ false) (take (character_bound_for closer b) stack)
  NonePairs-below i =
      cond_both (can_do_both closer) (remainder_bound (closer.length % 3) b)
      (min (remainder_bound (closer.length % 3) b) b.cannot_open)
      (λ m. All (λ c. may_pair c.run closer ≡ false) (take m stack))
      (λ e k x l. may_pair-fails (get_or (take (remainder_bound (closer.length % 3) b) stack) k x) closer
      (below_remainder i k x l)
      (λ f. cc))
      (λ e.
      let m : ℕ = remainder_bound (closer.length % 3) b in
      let n : ℕ = b.cannot_open in
      let s1 : take (min m n) (take m stack) ≡ take (min m n) stack = take-take (min m n) m stack (omega arith) in
      let s2 : take (min m n) (take n stack) ≡ take (min m n) stack = take-take (min m n) n stack (omega arith) in
      let a1 : All (IsOutOfStep closer.delimiter (closer.length % 3)) (take (min m n) stack) =
      rw (← s1)
      (All-take (IsOutOfStep closer.delimiter (closer.length % 3)) (min m n) (take m stack) (below_remainder i)) in
      let a2 : All (IsOfBoth closer.delimiter) (take (min m n) stack) = subst (All (IsOfBoth closer.delimiter)) s2
      (All-take (IsOfBoth closer.delimiter) (min m n) (take n stack) i.cannot_open) in
      (λ k x l. may_pair-fails (get_or (take (min m n) stack) k x) closer (a1 k x l) (λ _. a2 k x l)))

pub BoundStack-cut : (stack : List Characters) (b : LowerBounds) (n : ℕ) → n ≤ length stack → BoundStack stack b
    → BoundStack (take n stack) (lowered n b)
BoundStack-cut stack b n w h =
    let e : length (take n stack) ≡ n = length-take-le n stack w in
    record {
      star = BoundCharacter-cut Star stack b.star n w h.star;
      underscore = BoundCharacter-cut Underscore stack b.underscore n w h.underscore;
      tilde_within = omega arith;
      caret_within = omega arith;
    }

-- with what the bound says, no run of the stack pairs
joined_failures : (closer : Run) (stack : List Characters) (n : ℕ) → All (λ c. may_pair c.run closer ≡ false)
    (take n stack)
    → ((k : ℕ) (x : Characters) → n ≤ k → k < length stack → may_pair (get_or stack k x).run closer ≡ false)
    → All (λ c. may_pair c.run closer ≡ false) stack
joined_failures closer stack n a f k x l =
    elim (cases_lt k n) [
      | inl below ↦ let e : length (take n stack) ≡ min n (length stack) = length-take n stack in let g : get_or
          (take n stack) k x
          ≡ get_or stack k x = get_or-take n stack k x below in rw (← g) (a k x (omega arith))
      | inr above ↦ f k x above l
    ]

raised_character : (d : Delimiter) (closer : Run) (stack : List Characters) (b : CharacterBounds) → d
    ≡ closer.delimiter → needs_equal_length d ≡ false → BoundCharacter d stack b
    → ((k : ℕ) (x : Characters) → character_bound_for closer b ≤ k → k < length stack
    → may_pair (get_or stack k x).run closer ≡ false)
    → BoundCharacter d stack (character_raised_for closer (length stack) b)
raised_character d closer stack b e n h f =
    let i : BoundCharacter closer.delimiter stack b = subst (λ d. BoundCharacter d stack b) e h in
    rw e (BoundCharacter-raised closer stack b (sym (ap needs_equal_length e) ∙ n) (joined_failures closer stack
    (character_bound_for closer b) (NonePairs-below closer stack b i) f) i)

raised_at_each : (d : Delimiter) (closer : Run) (stack : List Characters) (b : LowerBounds) → d ≡ closer.delimiter
    → BoundStack stack b
    → ((k : ℕ) (x : Characters) → bound_at d closer b ≤ k → k < length stack → may_pair (get_or stack k x).run closer
    ≡ false)
    → BoundStack stack (raised_at d closer (length stack) b)
raised_at_each Star closer stack b e h f =
    record {
      star = raised_character Star closer stack b.star e refl h.star f;
      underscore = h.underscore;
      tilde_within = h.tilde_within;
      caret_within = h.caret_within;
    }
raised_at_each Underscore closer stack b e h f =
    record {
      star = h.star;
      underscore = raised_character Underscore closer stack b.underscore e refl h.underscore f;
      tilde_within = h.tilde_within;
      caret_within = h.caret_within;
    }
raised_at_each Tilde closer stack b e h f =
    record { star = h.star; underscore = h.underscore; tilde_within = omega arith; caret_within = omega arith }
raised_at_each Caret closer stack b e h f =
    record { star = h.star; underscore = h.underscore; tilde_within = omega arith; caret_within = omega arith }

-- a search that failed may raise the bounds that it read
pub BoundStack-raised : (closer : Run) (stack : List Characters) (b : LowerBounds) → BoundStack stack b
    → ((k : ℕ) (x : Characters) → bound_for closer b ≤ k → k < length stack → may_pair (get_or stack k x).run closer
    ≡ false)
    → BoundStack stack (raised_for closer (length stack) b)
BoundStack-raised closer stack b h f = raised_at_each closer.delimiter closer stack b refl h f

within_remainder : (r : ℕ) (d : Delimiter) (stack : List Characters) (b : CharacterBounds) → BoundCharacter d stack b
    → remainder_bound r b ≤ length stack
within_remainder r d stack b h =
    remainder_case r b (λ m. m ≤ length stack) (λ _. h.zero_within) (λ _. h.one_within) (λ _. h.two_within)

within_character : (closer : Run) (d : Delimiter) (stack : List Characters) (b : CharacterBounds)
    → BoundCharacter d stack b
    → character_bound_for closer b ≤ length stack
within_character closer d stack b h =
    let w : remainder_bound (closer.length % 3) b ≤ length stack = within_remainder (closer.length % 3) d stack b h in
    cond_both (can_do_both closer) (remainder_bound (closer.length % 3) b)
    (min (remainder_bound (closer.length % 3) b) b.cannot_open)
    (λ m. m ≤ length stack) (λ _. w) (λ _. omega arith)

-- the bound of a closer lies within the stack
pub bound_at-within : (d : Delimiter) (closer : Run) (stack : List Characters) (b : LowerBounds) → BoundStack stack b
    → bound_at d closer b ≤ length stack
bound_at-within Star closer stack b h = within_character closer Star stack b.star h.star
bound_at-within Underscore closer stack b h = within_character closer Underscore stack b.underscore h.underscore
bound_at-within Tilde closer stack b h = h.tilde_within
bound_at-within Caret closer stack b h = h.caret_within

-- below the bound of a closer of `*` or `_` no run pairs with it
pub below_bound_fails : (d : Delimiter) (closer : Run) (stack : List Characters) (b : LowerBounds) → d
    ≡ closer.delimiter
    → is_tilde_or_caret d ≡ false → BoundStack stack b → All (λ c. may_pair c.run closer ≡ false)
    (take (bound_at d closer b) stack)
below_bound_fails Star closer stack b e q h = NonePairs-below closer stack b.star
    (subst (λ d. BoundCharacter d stack b.star) e h.star)
below_bound_fails Underscore closer stack b e q h = NonePairs-below closer stack b.underscore
    (subst (λ d. BoundCharacter d stack b.underscore) e h.underscore)
below_bound_fails Tilde closer stack b e q h = cc
below_bound_fails Caret closer stack b e q h = cc

-- each bound below which runs are dropped lies within the stack
pub drop_bound-within : (d : Delimiter) (stack : List Characters) (b : LowerBounds) → BoundStack stack b
    → drop_bound d b ≤ length stack
drop_bound-within Star stack b h = omega arith
drop_bound-within Underscore stack b h = omega arith
drop_bound-within Tilde stack b h = h.tilde_within
drop_bound-within Caret stack b h = h.caret_within
