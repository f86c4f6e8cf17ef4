-- A left list and its `]` in an arena: their parts are chains of the arena.
use Rattle.std.proofs.Common.{◌≡◌, ℕ, ◌≤◌, List, Option, length, arith}
use Rattle.markdown_base.specs.Arena.{sibling_of}
use Rattle.markdown_base.specs.ArenaForest.{links_of, forest_at}
use Rattle.markdown_base.specs.Forest.{Forest, node}
use Rattle.markdown_base.specs.declared.item.Item.{Item}
use Rattle.markdown_base.specs.declared.node.Node.{Node}
use Rattle.markdown_base.proofs.ArenaForestLemmas.{height, forest_at-fits}
use Rattle.markdown_document.specs.Document.{TreeNode}
use Rattle.markdown_document.specs.Tables.{Tables}
use Rattle.markdown_brackets.specs.ChainHeld.{Holds, numbers_of}
use Rattle.markdown_brackets.proofs.HeldTreesLemmas.{Holds-spells}

module _ (source : List ℕ) (tables : Tables) (nodes : List (Node Item)) where
  -- trees that an arena contains, whose height is at most the number of its nodes, are those that the links lead
  -- through
  pub record Found (l : Option ℕ) (f : Forest (TreeNode ℕ)) : Type 0 where
    pub holds : Holds source tables nodes l f
    pub low : height (numbers_of f) ≤ length nodes

  pub found_at : (l : Option ℕ) (f : Forest (TreeNode ℕ)) → Found l f → forest_at (links_of nodes) l ≡ numbers_of f
  found_at l f s = forest_at-fits (links_of nodes) l (numbers_of f) (Holds-spells source tables nodes l f s.holds) s.low

  pub found_after : (l : Option ℕ) (a : TreeNode ℕ) (below after : Forest (TreeNode ℕ)) → Found l (node a below after)
      → Found (sibling_of nodes a.note) after
  found_after l a below after s = record { holds = s.holds.4; low = omega (arith, s.low) }
