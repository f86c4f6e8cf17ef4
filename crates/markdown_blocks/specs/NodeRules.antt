-- What is tested of one node, in a tree whose links are known to lead through a forest.
use Rattle.std.specs.Prelude.{◌≡◌, ℕ, ◌<◌, List, Option, length, nat_eq}
use Rattle.std.specs.List.{AllByRecursion, IsDistinct, filter_map}
use Rattle.markdown_base.specs.declared.item.Item.{Item}
use Rattle.markdown_base.specs.declared.item.ItemBody.{ItemBody}
use Rattle.markdown_base.specs.declared.node.Node.{Node}
use Rattle.markdown_base.specs.Arena.{child_of}
use Rattle.markdown_base.specs.ArenaForest.{links_of, forest_at, Spells}
use Rattle.markdown_base.specs.BlockTree.{Numbered, item_at}
use Rattle.markdown_base.specs.Forest.{Forest}
use Rattle.markdown_base.specs.Item.{text_named, alignments_named}
use Rattle.markdown_base.specs.WellFormed.{has_open, all_inline, has_tight_paragraph}
use Rattle.markdown_blocks.specs.declared.chain.ChainKinds.{ChainKinds}
use Rattle.markdown_blocks.specs.declared.named.NamedPart.{NamedPart}
use Rattle.markdown_blocks.specs.declared.named.NamedPart.TheVariants.{Text, Alignments}

-- a link leads through finitely many nodes
pub record LeadsOn (nodes : List (Node Item)) (link : Option ℕ) : Type 0 where
  pub spelled : Spells (links_of nodes) link (forest_at (links_of nodes) link)

-- there is a node with this number, and finitely many nodes are below it
pub record IsReachable (nodes : List (Node Item)) (ix : ℕ) : Type 0 where
  pub within : ix < length nodes
  pub below : LeadsOn nodes (child_of nodes ix)

-- these are the kinds of items of a chain
pub record Tells (kinds : ChainKinds) (chain : Forest Numbered) : Type 0 where
  pub any_open : kinds.any_open ≡ has_open chain
  pub only_inline : kinds.only_inline ≡ all_inline chain
  pub any_tight : kinds.any_tight ≡ has_tight_paragraph chain

-- the number by which a body refers to a text, or to a list of alignments
abbrev pub part_named : NamedPart → ItemBody → Option ℕ
part_named Text body = text_named body
part_named Alignments body = alignments_named body

-- the numbers by which the nodes of an order refer to parts of a kind
abbrev pub names_of : NamedPart → List (Node Item) → List ℕ → List ℕ
names_of part nodes order = filter_map (λ ix. part_named part (item_at nodes ix).body) order

-- each number is below a size, and none occurs twice
pub record AreNamedOnce (size : ℕ) (numbers : List ℕ) : Type 0 where
  pub within : AllByRecursion (λ ix. ix < size) numbers
  pub once : IsDistinct nat_eq numbers
