-- The result of a search down a stack, step by step.
use Rattle.std.proofs.Common.{◌≡◌, ℕ, zero, suc, ◌+◌, ◌<◌, ◌≤◌, min, Bool, true, false, List, [], ◌∷◌, ◌++◌, length}
use Rattle.std.proofs.Common.{take, get_or, Some, None, inl, inr, refl, ap, sym, ◌∙◌, subst, arith, ltb, map, add-one}
use Rattle.std.specs.Prelude.{not, ◌&&◌, ◌||◌, if◌then◌else◌}
use Rattle.std.proofs.lemmas.List.{take_more, length-take-le, get_or-take}
use Rattle.std.proofs.lemmas.Bool.{cases_Bool, lt-ltb, le-ltb, cases_lt, and_parts}
use Rattle.std.proofs.Math.Bool.{or-true}
use Rattle.markdown_delims.specs.declared.run.Delimiter.{Delimiter}
use Rattle.markdown_delims.specs.declared.run.Delimiter.TheVariants.{Star, Underscore, Tilde, Caret}
use Rattle.markdown_delims.specs.declared.run.Run.{Run}
use Rattle.markdown_delims.specs.declared.run.Characters.{Characters}
use Rattle.markdown_delims.specs.declared.bounds.LowerBounds.{LowerBounds}
use Rattle.markdown_delims.specs.MayPair.{same_delimiter, drops, may_pair}
use Rattle.markdown_delims.specs.PairingLaws.{is_tilde_or_caret}
use Rattle.markdown_delims.specs.RunSearch.{may_take, OpenRun, nearest_run, drop_run, dropped_by}
use Rattle.markdown_delims.specs.Bounds.{BoundStack, bound_at, bound_for, raised_at, raised_for, lowered, drop_bound}
use Rattle.markdown_delims.specs.OpenRuns.{open_run, open_runs_from, open_runs}
use Rattle.markdown_delims.proofs.BoundLaws.{below_bound_fails, bound_at-within}

-- the newest run comes first
open_runs_from-push : (t : LowerBounds) (i : ℕ) (cs : List Characters) (c : Characters) (rs : List OpenRun)
    → open_runs_from t i (cs ++ c ∷ []) rs ≡ open_run t (i + length cs) c ∷ open_runs_from t i cs rs
open_runs_from-push t i [] c rs = ap (λ j. open_run t j c ∷ rs) (omega arith)
open_runs_from-push t i (x ∷ cs) c rs =
    open_runs_from-push t (suc i) cs c (open_run t i x ∷ rs)
    ∙ ap (λ j. open_run t j c ∷ open_runs_from t (suc i) cs (open_run t i x ∷ rs)) (omega arith)

pub open_runs-push : (t : LowerBounds) (cs : List Characters) (c : Characters)
    → open_runs t (cs ++ c ∷ []) ≡ open_run t (length cs) c ∷ open_runs t cs
unfolding open_runs
open_runs-push t cs c = open_runs_from-push t 0 cs c [] ∙ ap (λ j. open_run t j c ∷ open_runs_from t 0 cs [])
    (omega arith)

-- a run that is pushed is not dropped
pub open_runs-pushed : (t : LowerBounds) (cs : List Characters) (c : Characters)
    → drop_bound c.run.delimiter t ≤ length cs
    → open_runs t (cs ++ c ∷ []) ≡ record { dropped = false; opener = c } ∷ open_runs t cs
open_runs-pushed t cs c h =
    open_runs-push t cs c
    ∙ ap (λ b. record { dropped = b; opener = c } ∷ open_runs t cs)
    (le-ltb (length cs) (drop_bound c.run.delimiter t) h)

-- bounds that drop alike below the stack's top give the same runs
open_runs_from-same : (t u : LowerBounds) (n i : ℕ) (cs : List Characters) (rs : List OpenRun)
    → ((d : Delimiter) (j : ℕ) → j < n → ltb j (drop_bound d u) ≡ ltb j (drop_bound d t)) → i + length cs ≤ n
    → open_runs_from u i cs rs ≡ open_runs_from t i cs rs
open_runs_from-same t u n i [] rs f h = refl
open_runs_from-same t u n i (c ∷ cs) rs f h =
    open_runs_from-same t u n (suc i) cs (open_run u i c ∷ rs) f (omega arith)
    ∙ ap (λ b. open_runs_from t (suc i) cs (record { dropped = b; opener = c } ∷ rs))
    (f c.run.delimiter i (omega arith))

lowered_drops : (t : LowerBounds) (n : ℕ) (d : Delimiter) → drop_bound d (lowered n t) ≡ min (drop_bound d t) n
lowered_drops t n Star = omega arith
lowered_drops t n Underscore = omega arith
lowered_drops t n Tilde = refl
lowered_drops t n Caret = refl

min_test : (t n i : ℕ) → i < n → ltb i (min t n) ≡ ltb i t
min_test t n i h =
    elim (cases_lt i t) [
      | inl below ↦ lt-ltb i (min t n) (omega arith) ∙ sym (lt-ltb i t below)
      | inr above ↦ le-ltb i (min t n) (omega arith) ∙ sym (le-ltb i t above)
    ]

pub open_runs-lowered : (t : LowerBounds) (n : ℕ) (cs : List Characters) → length cs ≤ n → open_runs (lowered n t) cs
    ≡ open_runs t cs
unfolding open_runs
open_runs-lowered t n cs h =
    open_runs_from-same t (lowered n t) n 0 cs [] (λ d j l. ap (ltb j) (lowered_drops t n d)
    ∙ min_test (drop_bound d t) n j l)
    (omega arith)

-- bounds below which the runs of more characters are dropped
open_runs_from-dropped : (e : Delimiter) (t u : LowerBounds) (n i : ℕ) (cs : List Characters) (rs : List OpenRun)
    → ((d : Delimiter) (j : ℕ) → j < n → ltb j (drop_bound d u) ≡ (ltb j (drop_bound d t) || drops e d))
    → i + length cs ≤ n
    → open_runs_from u i cs (map (drop_run e) rs) ≡ map (drop_run e) (open_runs_from t i cs rs)
open_runs_from-dropped e t u n i [] rs f h = refl
open_runs_from-dropped e t u n i (c ∷ cs) rs f h =
    ap (λ b. open_runs_from u (suc i) cs (record { dropped = b; opener = c } ∷ map (drop_run e) rs))
    (f c.run.delimiter i (omega arith))
    ∙ open_runs_from-dropped e t u n (suc i) cs (open_run t i c ∷ rs) f (omega arith)

or_false : (b : Bool) → b ≡ (b || false)
or_false true = refl
or_false false = refl

-- a place below a bound that a failed search may have raised
raised_test : (raises : Bool) (n t j : ℕ) → j < n → ltb j (if raises then n else t) ≡ (ltb j t || raises)
raised_test true n t j l = lt-ltb j n l ∙ sym (or-true (ltb j t))
raised_test false n t j l = or_false (ltb j t)

-- two characters that test as one are one
one_delimiter : (a b : Delimiter) → same_delimiter a b ≡ true → a ≡ b
one_delimiter Star Star h = refl
one_delimiter Underscore Underscore h = refl
one_delimiter Tilde Tilde h = refl
one_delimiter Caret Caret h = refl
one_delimiter a b h = cc

-- a run that may not pair is not taken
pub may_take-fails : (closer : Run) (t : LowerBounds) (i : ℕ) (c : Characters) → may_pair c.run closer ≡ false
    → may_take closer (open_run t i c) ≡ false
may_take-fails closer t i c h =
    ap (λ b. not (ltb i (drop_bound c.run.delimiter t)) && b) h ∙ and_false (not (ltb i (drop_bound c.run.delimiter t)))
  where
    and_false : (b : Bool) → (b && false) ≡ false
    and_false true = refl
    and_false false = refl

-- one that may pair is of the closer's character
same_from_pair : (closer : Run) (c : Characters) → may_pair c.run closer ≡ true → c.run.delimiter ≡ closer.delimiter
same_from_pair closer c h =
    one_delimiter c.run.delimiter closer.delimiter (and_parts _ _ (and_parts _ _ h).0).0

-- a run at or above the closer's bound is not dropped
drop_bound_le : (d : Delimiter) (closer : Run) (b : LowerBounds) → drop_bound d b ≤ bound_at d closer b
drop_bound_le Star closer b = omega arith
drop_bound_le Underscore closer b = omega arith
drop_bound_le Tilde closer b = omega arith
drop_bound_le Caret closer b = omega arith

-- at or above the closer's bound a run that may pair is taken
pub may_take-holds : (closer : Run) (b : LowerBounds) (i : ℕ) (c : Characters) → bound_for closer b ≤ i
    → may_pair c.run closer ≡ true
    → may_take closer (open_run b i c) ≡ true
may_take-holds closer b i c l h =
    let w : drop_bound closer.delimiter b ≤ bound_for closer b = drop_bound_le closer.delimiter closer b in
    let q : ltb i (drop_bound c.run.delimiter b) ≡ false = ap (λ d. ltb i (drop_bound d b)) (same_from_pair closer c h)
    ∙ le-ltb i (drop_bound closer.delimiter b) (omega arith) in
    ap (λ q. not q && may_pair c.run closer) q ∙ h

-- below the bound of its character no run is taken by `~` or `^`
drops_at : (closer : Run) (t : LowerBounds) (i : ℕ) (c : Characters) → i < drop_bound closer.delimiter t
    → may_take closer (open_run t i c) ≡ false
drops_at closer t i c l =
    elim (cases_Bool (may_pair c.run closer)) [
      | inl pairs ↦ ap (λ q. not q && may_pair c.run closer)
          (ap (λ d. ltb i (drop_bound d t)) (same_from_pair closer c pairs)
          ∙ lt-ltb i (drop_bound closer.delimiter t) l)
      | inr fails ↦ may_take-fails closer t i c fails
    ]

-- one step down the stack, past a run that is not taken
pub nearest-passed : (closer : Run) (t : LowerBounds) (stack : List Characters) (i : ℕ) (x : Characters)
    → i < length stack
    → may_take closer (open_run t i (get_or stack i x)) ≡ false → nearest_run closer (open_runs t (take (i + 1) stack))
    ≡ nearest_run closer (open_runs t (take i stack))
nearest-passed closer t stack i x l h =
    let e : length (take i stack) ≡ i = length-take-le i stack (omega arith) in
    rw (take_more stack i x l, open_runs-push t (take i stack) (get_or stack i x), e, h) refl

-- and at one that is taken
pub nearest-taken : (closer : Run) (t : LowerBounds) (stack : List Characters) (i : ℕ) (x : Characters)
    → i < length stack
    → may_take closer (open_run t i (get_or stack i x)) ≡ true → nearest_run closer (open_runs t (take (i + 1) stack))
    ≡ Some (record { opener = get_or stack i x; before = open_runs t (take i stack) })
nearest-taken closer t stack i x l h =
    let e : length (take i stack) ≡ i = length-take-le i stack (omega arith) in
    rw (take_more stack i x l, open_runs-push t (take i stack) (get_or stack i x), e, h) refl

none_upto : (closer : Run) (t : LowerBounds) (stack : List Characters) (n : ℕ) → n ≤ length stack
    → ((i : ℕ) (x : Characters) → i < n → may_take closer (open_run t i (get_or stack i x)) ≡ false)
    → nearest_run closer (open_runs t (take n stack)) ≡ None
unfolding open_runs
none_upto closer t stack zero h f = refl
none_upto closer t [] (suc n) h f = refl
none_upto closer t (c ∷ cs) (suc n) h f =
    subst (λ m. nearest_run closer (open_runs t (take m (c ∷ cs))) ≡ None) (add-one n)
    (nearest-passed closer t (c ∷ cs) n c (omega arith) (f n c (omega arith))
    ∙ none_upto closer t (c ∷ cs) n (omega arith) (λ i x l. f i x (omega arith)))

-- below its bound a closer finds none
pub nearest-below : (closer : Run) (stack : List Characters) (b : LowerBounds) → BoundStack stack b
    → nearest_run closer (open_runs b (take (bound_for closer b) stack)) ≡ None
nearest-below closer stack b h =
    none_upto closer b stack (bound_for closer b) (bound_at-within closer.delimiter closer stack b h)
    (λ i x l.
    elim (cases_Bool (is_tilde_or_caret closer.delimiter)) [
      | inl dropping ↦ drops_at closer b i (get_or stack i x) (last_two closer.delimiter dropping l)
      | inr pairing ↦
          may_take-fails closer b i (get_or stack i x)
          (let w : bound_for closer b ≤ length stack = bound_at-within closer.delimiter closer stack b h in
          let e : length (take (bound_for closer b) stack) ≡ bound_for closer b = length-take-le (bound_for closer b)
          stack w in
          let g : get_or (take (bound_for closer b) stack) i x ≡ get_or stack i x = get_or-take (bound_for closer b)
          stack i x l in
          rw (← g) (below_bound_fails closer.delimiter closer stack b refl pairing h i x (omega arith)))
    ])
  where
    last_two : (d : Delimiter) → is_tilde_or_caret d ≡ true → {i : ℕ} → i < bound_at d closer b → i < drop_bound d b
    last_two Tilde q l = l
    last_two Caret q l = l
    last_two d q l = cc

-- a failed search changes the runs as the dropping says
pub open_runs-raised : (closer : Run) (stack : List Characters) (b : LowerBounds)
    → open_runs (raised_for closer (length stack) b) stack
    ≡ dropped_by closer (open_runs b stack)
unfolding open_runs
open_runs-raised closer stack b = open_runs_from-dropped closer.delimiter b (raised_for closer (length stack) b)
    (length stack) 0 stack []
    (raised closer.delimiter) (omega arith)
  where
    raised : (e d : Delimiter) (j : ℕ) → j < length stack → ltb j (drop_bound d (raised_at e closer (length stack) b))
        ≡ (ltb j (drop_bound d b) || drops e d)
    raised e Tilde j l = raised_test (drops e Tilde) (length stack) b.tilde j l
    raised e Caret j l = raised_test (drops e Caret) (length stack) b.caret j l
    raised Star Star j l = or_false (ltb j 0)
    raised Underscore Star j l = or_false (ltb j 0)
    raised Tilde Star j l = or_false (ltb j 0)
    raised Caret Star j l = or_false (ltb j 0)
    raised Star Underscore j l = or_false (ltb j 0)
    raised Underscore Underscore j l = or_false (ltb j 0)
    raised Tilde Underscore j l = or_false (ltb j 0)
    raised Caret Underscore j l = or_false (ltb j 0)
