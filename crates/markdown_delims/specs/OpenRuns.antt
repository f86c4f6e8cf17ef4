-- A stack of open runs as its callers see it.
use Rattle.std.specs.Prelude.{ℕ, suc, ◌+◌, ◌^◌, ◌<◌, List, [], ◌∷◌, length, nat_lt, All}
use Rattle.markdown_delims.specs.declared.run.Characters.{Characters}
use Rattle.markdown_delims.specs.declared.bounds.LowerBounds.{LowerBounds}
use Rattle.markdown_delims.specs.RunSearch.{OpenRun}
use Rattle.markdown_delims.specs.Bounds.{BoundStack, above_bounds, drop_bound}

-- the open runs, the nearest first; the number of comparisons with closers; and that number plus the comparisons that
-- may still be made
pub record Openers : Type 0 where
  pub runs : List OpenRun
  pub examined : ℕ
  pub potential : ℕ

-- the run at a position of the stack: it is dropped if it is below the bound of its character
abbrev pub open_run : LowerBounds → ℕ → Characters → OpenRun
open_run b place c = record { dropped = nat_lt place (drop_bound c.run.delimiter b); opener = c }

-- the open runs of a stack, from this position on
abbrev pub open_runs_from : LowerBounds → ℕ → List Characters → List OpenRun → List OpenRun
open_runs_from b place [] rs = rs
open_runs_from b place (c ∷ cs) rs = open_runs_from b (suc place) cs (open_run b place c ∷ rs)

-- the open runs of a stack whose newest run is last
unfoldable pub open_runs : LowerBounds → List Characters → List OpenRun
open_runs b stack = open_runs_from b 0 stack []

-- the number of comparisons, plus the number of open runs, plus for each bound the number of open runs at or above it
abbrev pub potential_of : List Characters → ℕ → LowerBounds → ℕ
potential_of stack examined b = examined + length stack + above_bounds (length stack) b

-- a stack as callers see it
abbrev pub openers_of : List Characters → ℕ → LowerBounds → Openers
openers_of stack examined b =
    record { runs = open_runs b stack; examined = examined; potential = potential_of stack examined b }

-- what always holds for a stack
pub record IsSound (stack : List Characters) (examined : ℕ) (b : LowerBounds) : Type 0 where
  pub bound : BoundStack stack b
  pub counts : All (λ c. 0 < c.count) stack
  pub fits : potential_of stack examined b < 2 ^ 128
