-- The levels of headings as numbers and as text.
use Rattle.std.specs.Prelude.{◌≡◌, ℕ, ◌==◌, if◌then◌else◌, List, Option, Some, None, Result, MatchResult, codes}
use Rattle.markdown_base.specs.declared.tag.HeadingLevel.{HeadingLevel}
use Rattle.markdown_base.specs.declared.tag.HeadingLevel.TheVariants as level
use Rattle.markdown_base.specs.declared.tag.InvalidHeadingLevel.{InvalidHeadingLevel}

-- a level as a number
abbrev pub level_number : HeadingLevel → ℕ
level_number level.H1 = 1
level_number level.H2 = 2
level_number level.H3 = 3
level_number level.H4 = 4
level_number level.H5 = 5
level_number level.H6 = 6

-- the level with a number from 1 to 6
abbrev pub level_of : ℕ → Option HeadingLevel
level_of count =
    if count == 1 then Some level.H1
    else if count == 2 then Some level.H2
    else if count == 3 then Some level.H3
    else if count == 4 then Some level.H4
    else if count == 5 then Some level.H5
    else if count == 6 then Some level.H6
    else None

-- the result is the level with a number, or an error with a number that no level has
abbrev pub GivesLevel : ℕ → Result HeadingLevel InvalidHeadingLevel → Type 0
GivesLevel n result =
    MatchResult result (λ found. level_of n ≡ Some found) (λ e. (e.0 ≡ n) × (level_of n ≡ None))

-- the text that `{}` writes for a level
abbrev pub level_text : HeadingLevel → List ℕ
level_text level.H1 = codes "h1"
level_text level.H2 = codes "h2"
level_text level.H3 = codes "h3"
level_text level.H4 = codes "h4"
level_text level.H5 = codes "h5"
level_text level.H6 = codes "h6"
