-- Laws of tests: of two that are joined, of numbers that are compared, and of what holds whether one passes or fails.
use Rattle.std.proofs.Common.{◌≡◌, ℕ, ◌<◌, Bool, true, false, ◌&&◌, ◌||◌, ◌==◌, refl, arith}
use Rattle.std.proofs.lemmas.Bool.{and_parts, or_parts}
use Rattle.std.proofs.lemmas.Bool.Decides.{nat_tests}

-- where a conjunction passes, each side does
pub and_first : (a b : Bool) → (a && b) ≡ true → a ≡ true
and_first a b h = (and_parts a b h).0

pub and_second : (a b : Bool) → (a && b) ≡ true → b ≡ true
and_second a b h = (and_parts a b h).1

-- where a disjunction fails, each side does
pub or_first : (a b : Bool) → (a || b) ≡ false → a ≡ false
or_first a b h = (or_parts a b h).0

pub or_second : (a b : Bool) → (a || b) ≡ false → b ≡ false
or_second a b h = (or_parts a b h).1

-- what follows from a test that passes, and from one that fails
pub by_test : {P : Type 0} (b : Bool) → (b ≡ true → P) → (b ≡ false → P) → P
by_test true t f = t refl
by_test false t f = f refl

-- a number is equal to itself, and not to a greater one
pub is_itself : (n : ℕ) → (n == n) ≡ true
is_itself n = grind (arith, nat_tests)

pub less_is_other : (m n : ℕ) → m < n → (m == n) ≡ false
less_is_other m n h = grind (arith, nat_tests)
