-- What the next heading depends on in the headings so far: the open levels, which it may be below. Only private clauses
-- cite this.
use Rattle.std.specs.Prelude.{◌≡◌, ℕ, nat_lt, if◌then◌else◌, List, [], ◌∷◌, ◌++◌, length}
use Rattle.markdown_base.specs.Event.{EventView}
use Rattle.markdown_outline.specs.Outline.{EntryView}
use Rattle.markdown_contents.specs.Contents.{depth, lines_after}
use Rattle.markdown_contents.specs.HtmlList.{items_after}

-- of these levels, the nearest first, those from the first that is lower than this one
abbrev pub lower_from : ℕ → List ℕ → List ℕ
lower_from level [] = []
lower_from level (nearest ∷ others) = if nat_lt nearest level then nearest ∷ others else lower_from level others

-- of these levels, the nearest first, each is below all that follow it
abbrev pub IsStair : List ℕ → Type 0
IsStair [] = Unit {0}
IsStair (nearest ∷ others) = (depth nearest others ≡ length others) × IsStair others

-- the open levels serve for all levels so far, the nearest first: a heading of any level has as many above it
pub record AreOpen (open_levels levels : List ℕ) : Type 0 where
  pub stair : IsStair open_levels
  pub same : (level : ℕ) → depth level open_levels ≡ depth level levels

-- with the lines of these headings, which are left, what is written so far is the whole
pub record AreLinesSoFar (file open_levels list : List ℕ) (left : List EntryView) (whole : List ℕ) : Type 0 where
  pub levels : List ℕ
  pub open_levels_serve : AreOpen open_levels levels
  pub lines : list ++ lines_after file levels left ≡ whole

-- with the items of these headings, which are left, the events so far are the whole
pub record AreEventsSoFar (open_levels : List ℕ) (events : List EventView) (left : List EntryView)
    (whole : List EventView) : Type 0 where
  pub levels : List ℕ
  pub open_levels_serve : AreOpen open_levels levels
  pub items : events ++ items_after levels left ≡ whole
