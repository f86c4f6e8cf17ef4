-- The rules for block results, at the node of a number: a fact about the representation.
use Rattle.std.specs.Prelude.{ℕ, List, Option}
use Rattle.std.specs.Option.{option_map}
use Rattle.markdown_base.specs.declared.item.Item.{Item}
use Rattle.markdown_base.specs.declared.node.Node.{Node}
use Rattle.markdown_base.specs.Arena.{child_of, sibling_of}
use Rattle.markdown_base.specs.BlockTree.{Numbered, numbered, trees_at}
use Rattle.markdown_base.specs.WellFormed.{PartCounts, KeepsRules}

-- the next sibling of a node, with its item
abbrev pub next_at : List (Node Item) → ℕ → Option Numbered
next_at nodes ix = option_map (numbered nodes) (sibling_of nodes ix)

-- the node of a number keeps the rules
abbrev pub NodeKeepsRules : List ℕ → PartCounts → List (Node Item) → ℕ → Type 0
NodeKeepsRules text counts nodes ix =
    KeepsRules text counts (numbered nodes ix) (trees_at nodes (child_of nodes ix)) (next_at nodes ix)
