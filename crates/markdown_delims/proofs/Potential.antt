-- The number of runs at or above the bounds, as a stack and its bounds change.
use Rattle.std.proofs.Common.{◌≡◌, ℕ, ◌+◌, ◌-◌, ◌%◌, ◌≤◌, min, Bool, true, false, List, length, refl, arith}
use Rattle.std.specs.Prelude.{if◌then◌else◌, ◌==◌}
use Rattle.std.proofs.Math.Nat.{add-le-add}
use Rattle.std.proofs.lemmas.Bool.{eqb-false, eq-eqb}
use Rattle.markdown_delims.specs.declared.run.Delimiter.{Delimiter}
use Rattle.markdown_delims.specs.declared.run.Delimiter.TheVariants.{Star, Underscore, Tilde, Caret}
use Rattle.markdown_delims.specs.declared.run.Run.{Run}
use Rattle.markdown_delims.specs.declared.run.Characters.{Characters}
use Rattle.markdown_delims.specs.declared.bounds.CharacterBounds.{CharacterBounds}
use Rattle.markdown_delims.specs.declared.bounds.LowerBounds.{LowerBounds}
use Rattle.markdown_delims.specs.MayPair.{can_do_both}
use Rattle.markdown_delims.specs.Bounds.{BoundCharacter, BoundStack, character_bound_for, bound_at, bound_for}
use Rattle.markdown_delims.specs.Bounds.{character_raised_for, raised_at, raised_for, character_lowered, lowered}
use Rattle.markdown_delims.specs.Bounds.{character_above, above_bounds}

-- a run that is pushed is above each bound of a character
character_above-push : (d : Delimiter) (stack : List Characters) (b : CharacterBounds) → BoundCharacter d stack b
    → character_above (length stack + 1) b ≡ character_above (length stack) b + 4
character_above-push d stack b h =
    let c : b.cannot_open ≤ length stack = h.cannot_open_within in
    let z : b.remainder_zero ≤ length stack = h.zero_within in
    let o : b.remainder_one ≤ length stack = h.one_within in
    let t : b.remainder_two ≤ length stack = h.two_within in
    four (length stack) b.cannot_open b.remainder_zero b.remainder_one b.remainder_two c z o t
  where
    one_more : (n a : ℕ) → a ≤ n → (n + 1) - a ≡ (n - a) + 1
    one_more n a h = omega arith

    four : (n c z o w : ℕ) → c ≤ n → z ≤ n → o ≤ n → w ≤ n → ((n + 1) - c) + ((n + 1) - z) + ((n + 1) - o) +
        ((n + 1) - w)
        ≡ ((n - c) + (n - z) + (n - o) + (n - w)) + 4
    four n c z o w h1 h2 h3 h4 = omega (arith, one_more n c h1, one_more n z h2, one_more n o h3, one_more n w h4)

-- a push adds one to each of the ten
pub above_bounds-push : (stack : List Characters) (b : LowerBounds) → BoundStack stack b
    → above_bounds (length stack + 1) b
    ≡ above_bounds (length stack) b + 10
above_bounds-push stack b h =
    let s : character_above (length stack + 1) b.star ≡ character_above (length stack) b.star + 4 = character_above-push
    Star stack b.star
    h.star in
    let u : character_above (length stack + 1) b.underscore ≡ character_above (length stack) b.underscore
    + 4 = character_above-push Underscore stack b.underscore h.underscore in
    let t : b.tilde ≤ length stack = h.tilde_within in
    let k : b.caret ≤ length stack = h.caret_within in
    ten _ _ _ _ (length stack) b.tilde b.caret s u t k
  where
    ten : (p q r s n t k : ℕ) → p ≡ q + 4 → r ≡ s + 4 → t ≤ n → k ≤ n
        → p + r + ((n + 1) - t) + ((n + 1) - k) ≡ (q + s + (n - t) + (n - k)) + 10
    ten p q r s n t k e f h i = omega arith

-- a cut adds nothing
cut_above : (n m a : ℕ) → n ≤ m → n - min a n ≤ m - a
cut_above n m a h = omega arith

character_above-cut : (n m : ℕ) (b : CharacterBounds) → n ≤ m → character_above n (character_lowered n b) ≤
    character_above m b
character_above-cut n m b h =
    add-le-add (add-le-add (add-le-add (cut_above n m b.cannot_open h) (cut_above n m b.remainder_zero h))
    (cut_above n m b.remainder_one h)) (cut_above n m b.remainder_two h)

pub above_bounds-cut : (n m : ℕ) (b : LowerBounds) → n ≤ m → above_bounds n (lowered n b) ≤ above_bounds m b
above_bounds-cut n m b h = add-le-add (add-le-add (add-le-add (character_above-cut n m b.star h)
    (character_above-cut n m b.underscore h)) (cut_above n m b.tilde h)) (cut_above n m b.caret h)

-- raising the bounds that were read pays for all that was examined
raised_above : (bo t0 t1 t2 : Bool) (n c z o w : ℕ) → (t0 ≡ false → t1 ≡ false → t2 ≡ true) →
    ((n - (if bo then c else n)) + (n - (if t0 then n else z)) + (n - (if t1 then n else o)) +
    (n - (if t2 then n else w)))
    + (n - (if bo then (if t0 then z else if t1 then o else w) else min (if t0 then z else if t1 then o else w) c))
    ≤ (n - c) + (n - z) + (n - o) + (n - w)
raised_above true true true true n c z o w h = omega arith
raised_above true true true false n c z o w h = omega arith
raised_above true true false true n c z o w h = omega arith
raised_above true true false false n c z o w h = omega arith
raised_above true false true true n c z o w h = omega arith
raised_above true false true false n c z o w h = omega arith
raised_above true false false true n c z o w h = omega arith
raised_above true false false false n c z o w h = let e : false ≡ true = h refl refl in cc
raised_above false true true true n c z o w h = omega arith
raised_above false true true false n c z o w h = omega arith
raised_above false true false true n c z o w h = omega arith
raised_above false true false false n c z o w h = omega arith
raised_above false false true true n c z o w h = omega arith
raised_above false false true false n c z o w h = omega arith
raised_above false false false true n c z o w h = omega arith
raised_above false false false false n c z o w h = let e : false ≡ true = h refl refl in cc

character_above-raised : (closer : Run) (n : ℕ) (b : CharacterBounds)
    → character_above n (character_raised_for closer n b)
    + (n - character_bound_for closer b) ≤ character_above n b
character_above-raised closer n b =
    raised_above (can_do_both closer) (closer.length % 3 == 0) (closer.length % 3 == 1) (closer.length % 3 == 2) n
    b.cannot_open b.remainder_zero
    b.remainder_one b.remainder_two
    (λ f g.
    let ne0 : closer.length % 3 ≡ 0 → ⊥ = eqb-false (closer.length % 3) 0 f in
    let ne1 : closer.length % 3 ≡ 1 → ⊥ = eqb-false (closer.length % 3) 1 g in
    eq-eqb (closer.length % 3) 2 (omega arith))

star_raised : (a b c x y z : ℕ) → a + c ≤ b → a + x + y + z + c ≤ b + x + y + z
star_raised a b c x y z h = omega arith

underscore_raised : (a b c x y z : ℕ) → a + c ≤ b → x + a + y + z + c ≤ x + b + y + z
underscore_raised a b c x y z h = omega arith

tilde_raised : (a n t z : ℕ) → a + (n - n) + z + (n - t) ≤ a + (n - t) + z
tilde_raised a n t z = omega arith

caret_raised : (a n t : ℕ) → a + (n - n) + (n - t) ≤ a + (n - t)
caret_raised a n t = omega arith

above_at_each : (d : Delimiter) (closer : Run) (n : ℕ) (b : LowerBounds) → above_bounds n (raised_at d closer n b)
    + (n - bound_at d closer b) ≤ above_bounds n b
above_at_each Star closer n b = star_raised _ _ _ _ _ _ (character_above-raised closer n b.star)
above_at_each Underscore closer n b = underscore_raised _ _ _ _ _ _ (character_above-raised closer n b.underscore)
above_at_each Tilde closer n b = tilde_raised (character_above n b.star + character_above n b.underscore) n b.tilde
    (n - b.caret)
above_at_each Caret closer n b = caret_raised
    (character_above n b.star + character_above n b.underscore + (n - b.tilde)) n b.caret

pub above_bounds-raised : (closer : Run) (n : ℕ) (b : LowerBounds) → above_bounds n (raised_for closer n b)
    + (n - bound_for closer b) ≤ above_bounds n b
above_bounds-raised closer n b = above_at_each closer.delimiter closer n b
