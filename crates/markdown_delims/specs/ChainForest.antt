-- Numbers that rise along a chain.
use Rattle.std.specs.Prelude.{ℕ, suc, ◌≤◌, List, [], ◌∷◌}

-- each number is greater than the one before it, and the first is at least lo
abbrev pub RisesFrom : ℕ → List ℕ → Type 0
RisesFrom lo [] = Unit {0}
RisesFrom lo (x ∷ xs) = (lo ≤ x) × RisesFrom (suc x) xs
