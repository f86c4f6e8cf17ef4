-- A chain of an arena that is paired in place.
use Rattle.std.specs.Prelude.{◌≡◌, ℕ, ◌≤◌, true, false, List, Some, length}
use Rattle.markdown_base.specs.ArenaForest.{links_of, Spells, forest_at}
use Rattle.markdown_base.specs.ArenaWalk.{Reaches}
use Rattle.markdown_base.specs.BlockTree.{Numbered, numbered, trees_at}
use Rattle.markdown_base.specs.Forest.{Forest, nil, node, roots}
use Rattle.markdown_base.specs.Item.{is_block, is_open}
use Rattle.markdown_document.specs.Tables.{Tables}
use Rattle.markdown_document.specs.NamedEntries.{Named}
use Rattle.markdown_base.specs.declared.item.Item.{Item}
use Rattle.markdown_base.specs.declared.node.Node.{Node}
use Rattle.markdown_document.specs.ItemRules.{ComesBefore}
use Rattle.markdown_document.specs.Places.{trees_from}
use Rattle.markdown_document.specs.PlacedNodes.{IsPlaced, IsSameAt}
use Rattle.markdown_document.specs.Setting.{Setting}
use Rattle.markdown_document.specs.ResolverStates.{times_in, named_in, weight_in}
use Rattle.markdown_document.specs.Waiting.{waits_for_pairing}
use Rattle.markdown_delims.specs.ChainForest.{RisesFrom}
use Rattle.markdown_delims.specs.Pairing.{paired}
use Rattle.markdown_delims.specs.RunReading.{HasWholeRuns}

-- each open item of a chain waits for pairing
abbrev pub WaitsForPairing : Forest Numbered → Type 0
WaitsForPairing nil = Unit {0}
WaitsForPairing (node a below after) =
    (is_open a.item.body ≡ true → waits_for_pairing a.item.body ≡ true) × WaitsForPairing after

-- no item of a chain is a block
abbrev pub HasNoBlock : Forest Numbered → Type 0
HasNoBlock nil = Unit {0}
HasNoBlock (node a below after) = (is_block a.item.body ≡ false) × HasNoBlock after

-- the links from `first` on lead through a chain: no node occurs twice in it, the numbers of its own nodes rise, its
-- runs are whole, and only runs and quotes are open
pub record CanPair (text : List ℕ) (nodes : List (Node Item)) (first : ℕ) : Type 0 where
  pub spelled : Spells (links_of nodes) (Some first) (forest_at (links_of nodes) (Some first))
  pub once : (n : ℕ) → times_in nodes (Some first) n ≤ 1
  pub rising : RisesFrom 0 (roots (forest_at (links_of nodes) (Some first)))
  pub whole : HasWholeRuns text (trees_at nodes (Some first))
  pub waits : WaitsForPairing (trees_at nodes (Some first))

-- the chain from `first` on was paired in place
pub record PairsChain (s : Setting) (first : ℕ) (old new : List (Node Item)) : Type 0 where
  -- it is the chain that the rules make from it, whatever its items refer to
  pub pairs : (tables : Tables)
      → trees_from s.text tables new (Some first) ≡ paired s (trees_from s.text tables old (Some first))
  -- its links represent a chain without nodes that were not in it before, and without any node twice; its numbers rise
  pub spelled : Spells (links_of new) (Some first) (forest_at (links_of new) (Some first))
  pub times : (n : ℕ) → times_in new (Some first) n ≤ times_in old (Some first) n
  pub rising : RisesFrom 0 (roots (forest_at (links_of new) (Some first)))
  -- other nodes are unchanged
  pub same_size : length new ≡ length old
  pub outside : (n : ℕ) → times_in old (Some first) n ≡ 0 → IsSameAt old new n
  -- if its items were placed, they still are, at every depth; and what preceded the chain still does
  pub placed : (tables : Tables) → HasNoBlock (trees_at old (Some first))
      → Reaches (links_of old) (IsPlaced s.text tables old) (Some first)
      → Reaches (links_of new) (IsPlaced s.text tables new) (Some first)
  pub before : (a : Numbered) → ComesBefore a (Some (numbered old first)) → ComesBefore a (Some (numbered new first))
  -- no entry is referred to more often, and its weight is not greater
  pub named : (n : Named) → named_in new (Some first) n ≤ named_in old (Some first) n
  pub no_heavier : weight_in new (Some first) ≤ weight_in old (Some first)
