-- The ends of closing brackets that can no longer be references, as a set.
use Rattle.std.specs.List.{list_any}
use Rattle.std.specs.Prelude.{ℕ, Bool, ◌==◌}
use Rattle.markdown_brackets.specs.declared.spent_ends.SpentEnds.{SpentEnds}

-- the `]` that ends at this byte offset can no longer be a reference
abbrev pub is_spent : SpentEnds → ℕ → Bool
is_spent spent end = list_any (λ (one : ℕ). one == end) spent.ends.items
