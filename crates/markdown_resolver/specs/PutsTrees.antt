-- Trees that were put in the place of a node, by the numbers of their nodes.
use Rattle.std.specs.Prelude.{◌≡◌, ℕ, List, Option, Some}
use Rattle.markdown_base.specs.ArenaForest.{links_of, forest_at}
use Rattle.markdown_base.specs.BlockTree.{item_at}
use Rattle.markdown_base.specs.Forest.{Forest, relabelled}
use Rattle.markdown_base.specs.declared.item.Item.{Item}
use Rattle.markdown_base.specs.declared.node.Node.{Node}
use Rattle.markdown_document.specs.ChainRest.{joined_chains}
use Rattle.markdown_document.specs.Document.{TreeNode, Plain, part_of}
use Rattle.markdown_document.specs.TreeNodes.{annotated}
use Rattle.markdown_document.specs.Places.{trees_from}
use Rattle.markdown_document.specs.Tables.{Tables}
use Rattle.markdown_resolver.specs.Chains.{CanResolve, ChangesChain}
use Rattle.markdown_resolver.specs.Kept.{IsQuiet}
use Rattle.markdown_resolver.specs.Rewritten.{RunsGoOn}

-- the tree node as which a node of the arena reads, with the number of that node as its note
abbrev pub numbered_node : List ℕ → Tables → List (Node Item) → ℕ → TreeNode ℕ
numbered_node source tables nodes ix = record { note = ix; part = part_of source tables (item_at nodes ix) }

-- a chain, each tree with the number of its node
abbrev pub numbered_from : List ℕ → Tables → List (Node Item) → Option ℕ → Forest (TreeNode ℕ)
numbered_from source tables nodes link = relabelled (numbered_node source tables nodes)
    (forest_at (links_of nodes) link)

-- a forest without the numbers
abbrev pub without_numbers : Forest (TreeNode ℕ) → Forest Plain
without_numbers f = annotated (λ n. tt) f

-- trees were put in the place of a node, and the chain continues at a link with what is left
pub record PutsTrees (source : List ℕ) (ix : ℕ) (next : Option ℕ) (trees rest : Forest Plain)
    (old new : List (Node Item)) (tables tables' : Tables) : Type 0 where
  pub changes : ChangesChain source (Some ix) old new tables tables'
  pub runs : RunsGoOn source old new (Some ix)
  -- the trees are in the arena, and what is left follows them
  pub standing : Forest (TreeNode ℕ)
  pub stands : numbered_from source tables' new (Some ix)
      ≡ joined_chains standing (numbered_from source tables' new next)
  pub reads : without_numbers standing ≡ trees
  pub rest_is : trees_from source tables' new next ≡ rest
  -- nothing is open in the trees except what waits for pairing, and what is left can be resolved
  pub quiet : IsQuiet trees
  pub ready : CanResolve source tables' new next
