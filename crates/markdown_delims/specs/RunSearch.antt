-- Open runs as the stack holds them, and the search for the nearest one that may pair.
use Rattle.std.specs.Prelude.{List, [], ◌∷◌, map, Bool, not, ◌&&◌, ◌||◌, if◌then◌else◌, Option, Some, None}
use Rattle.markdown_delims.specs.declared.run.Delimiter.{Delimiter}
use Rattle.markdown_delims.specs.declared.run.Run.{Run}
use Rattle.markdown_delims.specs.declared.run.Characters.{Characters}
use Rattle.markdown_delims.specs.MayPair.{drops, may_pair}

-- a run that is still open, dropped or not
pub record OpenRun : Type 0 where
  pub dropped : Bool
  pub opener : Characters

-- a closer may pair with this open run
abbrev pub may_take : Run → OpenRun → Bool
may_take closer r = not r.dropped && may_pair r.opener.run closer

-- an open run that was found, and those before it
pub record Found : Type 0 where
  pub opener : Characters
  pub before : List OpenRun

-- the nearest open run that is not dropped and may pair; the nearest comes first in the list
abbrev pub nearest_run : Run → List OpenRun → Option Found
nearest_run closer [] = None
nearest_run closer (r ∷ rs) = if may_take closer r then Some (record { opener = r.opener; before = rs })
    else nearest_run closer rs

-- an open run after a failed search by a closer of this character
abbrev pub drop_run : Delimiter → OpenRun → OpenRun
drop_run d r = record { dropped = r.dropped || drops d r.opener.run.delimiter; opener = r.opener }

-- the open runs after a closer's failed search
abbrev pub dropped_by : Run → List OpenRun → List OpenRun
dropped_by closer rs = map (drop_run closer.delimiter) rs
