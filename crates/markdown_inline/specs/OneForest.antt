-- Between any two calls the arena of a parser reads as one forest, in which no item occurs twice.
use Rattle.std.specs.Prelude.{ℕ, ◌≤◌, List, [], ◌∷◌, ⊤}
use Rattle.markdown_base.specs.Arena.{Arena}
use Rattle.markdown_base.specs.ArenaForest.{Links, Spells, forest_at, links_of}
use Rattle.markdown_base.specs.declared.item.Item.{Item}
use Rattle.markdown_inline.specs.ParserLeft.{parser_tree}
use Rattle.markdown_inline.specs.WalkTotals.{times_left}
use Rattle.markdown_inline.specs.declared.walk.Parser.{Parser}

-- after each node that was entered, the links lead through a forest
abbrev pub AllSpell : Links → List ℕ → Type 0
AllSpell k [] = ⊤
AllSpell k (ix ∷ deeper) = Spells k (k.next ix) (forest_at k (k.next ix)) × AllSpell k deeper

-- what is left of a walk over an arena is one forest: from the cursor, and after each node that was entered, the links
-- lead through a forest; and no node occurs twice in these forests and among the nodes that were entered
pub record IsOneForest (arena : Arena Item) : Type 0 where
  pub here : Spells (links_of arena.nodes) arena.cursor (forest_at (links_of arena.nodes) arena.cursor)
  pub after : AllSpell (links_of arena.nodes) arena.spine
  pub once : (n : ℕ) → times_left (links_of arena.nodes) arena.cursor arena.spine n ≤ 1

-- what is left of a parser is one forest
abbrev pub ReadsOneForest : {F : Type 0} → Parser F → Type 0
ReadsOneForest p = IsOneForest (parser_tree p)
