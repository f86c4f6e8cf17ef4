-- Laws of optional values, and of what is taken from a queue.
use Rattle.std.proofs.Common.{◌≡◌, ◌∙◌, ℕ, ◌+◌, List, [], ◌∷◌, ◌++◌, Option, Some, None, length, drop, refl, ap, arith}
use Rattle.std.specs.Prelude.{IfSome, option_to_list}
use Rattle.std.specs.Option.{option_map, option_or}

-- what holds of each of two values holds of the first that there is
pub if_or : {X : Type 0} (p : X → Type 0) (a b : Option X) → IfSome a p → IfSome b p → IfSome (option_or a b) p
if_or p None b h k = k
if_or p (Some x) b h k = h

-- what follows from two facts of a value
pub if_both : {X : Type 0} (o : Option X) (P Q R : X → Type 0) → IfSome o P → IfSome o Q
    → ((x : X) → P x → Q x → R x) → IfSome o R
if_both None P Q R p q f = tt
if_both (Some x) P Q R p q f = f x p q

-- a number to which two are added
pub added_twice : (n m : ℕ) (found : Option ℕ)
    → option_map (λ k. n + k) (option_map (λ k. m + k) found) ≡ option_map (λ k. n + m + k) found
added_twice n m None = refl
added_twice n m (Some k) = ap Some (omega arith)

-- a queue from which nothing was popped is empty, and stays so
pub nothing_popped : {A : Type 0} (r : Option A) (old now : List A) → r ≡ None → old ≡ option_to_list r ++ now
    → now ≡ drop 1 old → old ≡ []
nothing_popped r [] now none items rest = refl
nothing_popped r (x ∷ old) now none items rest = let popped = rw (none, rest) at items in
    absurd (omega (arith, ap length popped))

pub nothing_kept : {A : Type 0} (r : Option A) (old now : List A) → r ≡ None → old ≡ option_to_list r ++ now
    → now ≡ drop 1 old → now ≡ []
nothing_kept {A} r old now none items rest =
    rest ∙ ap (λ (xs : List A). drop 1 xs) (nothing_popped r old now none items rest)
