-- Waiting openers `[` and `![`, the nearest first.
use Rattle.std.specs.Prelude.{ℕ, Bool, true, ◌&&◌, if◌then◌else◌, List, [], ◌∷◌, map, nat_le, Option, Some, None}
use Rattle.markdown_brackets.specs.declared.openers.Opener.{Opener}

-- an opener, and whether it can still become a link or an image
pub record Waiting : Type 0 where
  pub opener : Opener
  pub is_live : Bool

-- the nearest waiting opener
abbrev pub first_opener : List Waiting → Option Opener
first_opener [] = None
first_opener (w ∷ waiting) = Some w.opener

-- an opener that was just read
abbrev pub live_opener : Opener → Waiting
live_opener opener = record { opener = opener; is_live = true }

-- a `[` can no longer become a link; an image's opener can still become an image
abbrev pub disabled_opener : Waiting → Waiting
disabled_opener w = record { opener = w.opener; is_live = w.opener.is_image && w.is_live }

-- the openers without the nearest ones, as long as their node numbers are at least `node`
abbrev pub before : ℕ → List Waiting → List Waiting
before node [] = []
before node (w ∷ waiting) = if nat_le node w.opener.node then before node waiting else w ∷ waiting

-- the openers that are left before a finished link or image
abbrev pub waiting_before_link : Opener → List Waiting → List Waiting
waiting_before_link opener waiting =
    if opener.is_image then before opener.node waiting else map disabled_opener (before opener.node waiting)

-- the openers that are left before a finished wikilink, as a link or as an image
abbrev pub waiting_before_wikilink : ℕ → List Waiting → List Waiting
waiting_before_wikilink node waiting = map disabled_opener (before node waiting)
