-- Which positions are kept. Only private clauses and the invariant of `Positions` cite this.
use Rattle.std.specs.Prelude.{◌≡◌, ◌≤◌, ◌*◌, ℕ, List, length, Some, slice_get}
use Rattle.markdown_positions.specs.Positions.{position_in}
use Rattle.markdown_positions.specs.declared.position.Position.{Position}

-- the positions of the multiples of 64 up to the end are kept
abbrev pub AreSamples : List ℕ → List Position → Type 0
AreSamples bytes samples = (k : ℕ) → k * 64 ≤ length bytes → slice_get samples k ≡ Some (position_in bytes (k * 64))
