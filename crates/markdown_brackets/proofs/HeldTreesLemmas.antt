-- Trees of a left list in an arena: sums and heights, and what follows the left list.
use Rattle.std.proofs.Common.{◌≡◌, ℕ, ◌+◌, ◌≤◌, List, [], ◌∷◌, Option, arith}
use Rattle.markdown_base.specs.Arena.{child_of, sibling_of}
use Rattle.markdown_base.specs.ArenaForest.{links_of, Spells}
use Rattle.markdown_base.specs.Forest.{Forest, nil, node}
use Rattle.markdown_base.proofs.ArenaForestLemmas.{height}
use Rattle.markdown_base.specs.declared.item.Item.{Item}
use Rattle.markdown_base.specs.declared.node.Node.{Node}
use Rattle.markdown_document.specs.ChainRest.{joined_chains}
use Rattle.markdown_document.specs.Document.{TreeNode}
use Rattle.markdown_document.specs.Tables.{Tables}
use Rattle.markdown_document.specs.Totals.{total}
use Rattle.markdown_brackets.specs.ChainHeld.{Holds, numbers_of}
use Rattle.markdown_brackets.specs.LeftList.{Entry, done, waits, trees_onto}

-- a sum over the trees of a left list
abbrev pub total_left : (ℕ → ℕ) → List (Entry ℕ) → ℕ
total_left count [] = 0
total_left count (done a below ∷ left) = count a.note + (total count (numbers_of below) + total_left count left)
total_left count (waits m a ∷ left) = count a.note + total_left count left

abbrev pub total_of : (ℕ → ℕ) → Forest (TreeNode ℕ) → ℕ
total_of count f = total count (numbers_of f)

pub total-onto : (count : ℕ → ℕ) (left : List (Entry ℕ)) (later : Forest (TreeNode ℕ))
    → total_of count (trees_onto left later)
    ≡ total_left count left + total_of count later
total-onto count [] later = omega arith
total-onto count (done a below ∷ left) later = omega (arith, total-onto count left (node a below later))
total-onto count (waits m a ∷ left) later = omega (arith, total-onto count left (node a nil later))

pub total-joined : (count : ℕ → ℕ) (f g : Forest (TreeNode ℕ)) → total_of count (joined_chains f g)
    ≡ total_of count f + total_of count g
total-joined count nil g = omega arith
total-joined count (node a below after) g = omega (arith, total-joined count after g)

-- what follows a left list is at most as high as all of it
pub height-later : (left : List (Entry ℕ)) (f : Forest (TreeNode ℕ))
    → height (numbers_of f) ≤ height (numbers_of (trees_onto left f))
height-later [] f = omega arith
height-later (done a below ∷ left) f = omega (arith, height-later left (node a below f))
height-later (waits m a ∷ left) f = omega (arith, height-later left (node a nil f))

module _ (source : List ℕ) (tables : Tables) where
  -- what follows a left list is a chain of the arena
  pub Holds-from : (nodes : List (Node Item)) (l : Option ℕ) (left : List (Entry ℕ)) (later : Forest (TreeNode ℕ))
      → Holds source tables nodes l (trees_onto left later) → (m : Option ℕ) × Holds source tables nodes m later
  Holds-from nodes l [] later h = (l, h)
  Holds-from nodes l (done a below ∷ left) later h =
      let r = Holds-from nodes l left (node a below later) h in (sibling_of nodes a.note, r.1.4)
  Holds-from nodes l (waits m a ∷ left) later h =
      let r = Holds-from nodes l left (node a nil later) h in (sibling_of nodes a.note, r.1.4)

  -- the links represent their numbers
  pub Holds-spells : (nodes : List (Node Item)) (l : Option ℕ) (f : Forest (TreeNode ℕ)) → Holds source tables nodes l f
      → Spells (links_of nodes) l (numbers_of f)
  Holds-spells nodes l nil h = h
  Holds-spells nodes l (node a below after) h = (
    h.0,
    h.1,
    Holds-spells nodes (child_of nodes a.note) below h.3,
    Holds-spells nodes
        (sibling_of nodes a.note) after h.4,
  )
