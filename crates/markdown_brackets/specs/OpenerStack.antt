-- The list of openers that a stack represents: the stack stores the openers in the order in which they were read, and
-- the number of those that are disabled if they are a `[`.
use Rattle.std.specs.Prelude.{ℕ, zero, suc, List, [], ◌∷◌, reverse}
use Rattle.markdown_brackets.specs.Openers.{Waiting, live_opener, disabled_opener}
use Rattle.markdown_brackets.specs.declared.openers.Opener.{Opener}

-- the openers, of which the first n are disabled
abbrev pub marked : ℕ → List Opener → List Waiting
marked n [] = []
marked zero (o ∷ openers) = live_opener o ∷ marked zero openers
marked (suc n) (o ∷ openers) = disabled_opener (live_opener o) ∷ marked n openers

-- the same openers, the nearest first
abbrev pub waiting_openers : ℕ → List Opener → List Waiting
waiting_openers n openers = reverse (marked n openers)
