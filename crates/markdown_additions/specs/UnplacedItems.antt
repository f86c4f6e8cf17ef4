-- What an `Unplaced` returns: the items of its iterator, without the ranges.
use Rattle.std.specs.Prelude.{◌≡◌, ℕ, Ok, Err, Option, Some, None, Result, MatchOption}
use Rattle.std.specs.declared.ops.Range.{Range}
use Rattle.markdown_additions.specs.declared.unplaced.Unplaced.{Unplaced}
use Rattle.markdown_base.specs.declared.event.Event.{Event}
use Rattle.markdown_base.specs.declared.fault.Fault.{Fault}

-- the iterator whose events it returns
abbrev pub placed_iter : {I : Type 0} → Unplaced I → I
placed_iter u = u.iter

-- the second item is the first, without its range
abbrev pub IsUnplaced : Result (Event × Range ℕ) Fault → Result Event Fault → Type 0
IsUnplaced (Ok e) made = made ≡ Ok e.0
IsUnplaced (Err fault) made = made ≡ Err fault

-- a call returns what the iterator returns, without its range
abbrev pub GivesUnplaced : {S : Type 0} → (S → Option (Result (Event × Range ℕ) Fault) → S → Type 0) → S
    → Option (Result Event Fault) → S → Type 0
GivesUnplaced steps s r t = MatchOption r (steps s None t)
    (λ made. (item : Result (Event × Range ℕ) Fault) × steps s (Some item) t × IsUnplaced item made)

abbrev pub unplaced_steps : {S M : Type 0} → (S → Option (Result (Event × Range ℕ) Fault) → S → Type 0) → (M → S) → M
    → Option (Result Event Fault) → M → Type 0
unplaced_steps steps iter m r t = GivesUnplaced steps (iter m) r (iter t)
