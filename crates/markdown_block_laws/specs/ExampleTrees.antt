-- Examples: a text, the tree of its blocks, and its link reference definitions.
use Rattle.std.specs.Prelude.{◌≡◌, ℕ, ◌+◌, List, [], ◌∷◌, ◌++◌, Option, Some, None, map, ⊤}
use Rattle.markdown_base.specs.Forest.{Forest, nil, node}
use Rattle.markdown_base.specs.declared.block_parts.BlockParts.{BlockParts}
use Rattle.markdown_base.specs.declared.index.CowIndex.{CowIndex}
use Rattle.markdown_base.specs.declared.item.Item.{Item}
use Rattle.markdown_base.specs.declared.item.ItemBody.{ItemBody}
use Rattle.markdown_base.specs.declared.node.Node.{Node}
use Rattle.markdown_base.specs.Source.{source_as}
use Rattle.markdown_base.specs.Syntax.{commonmark}
use Rattle.markdown_builder.specs.BuilderView.{Definition, stored_definition}
use Rattle.markdown_block_rules.specs.BlockResults.{IsBlockResult}
use Rattle.markdown_block_rules.specs.BlockRules.{block_definitions, block_tree}
use Rattle.markdown_builder.specs.Shown.{Shown, plain_item, shown_result}

-- a tree is written as its labels in preorder, each with its depth
pub record Example : Type 0 where
  pub text : List ℕ
  pub tree : List (ℕ × Shown)
  pub definitions : List Definition

-- the labels of a forest that is this deep in a tree, in preorder, with their depths
abbrev pub with_depths : {A : Type 0} → ℕ → Forest A → List (ℕ × A)
with_depths depth nil = []
with_depths depth (node a below after) = (depth, a) ∷ (with_depths (depth + 1) below ++ with_depths depth after)

-- at a depth, a block or an item over a range; one that refers to a text
abbrev pub at : (depth start end : ℕ) → ItemBody → ℕ × Shown
at depth start end body = (depth, plain_item start end body)

abbrev pub naming_at : (depth start end : ℕ) → (CowIndex → ItemBody) → List ℕ → ℕ × Shown
naming_at depth start end body text = (
  depth,
  record {
    item = record { start = start; end = end; body = body (record { 0 = 0 }) };
    text = Some text;
    heading = None;
    alignments = [];
  },
)

-- a link reference definition over a range
abbrev pub defined : (start end : ℕ) → (label destination : List ℕ) → Option (List ℕ) → Definition
defined start end label destination title = record {
  label = label;
  destination = destination;
  title = title;
  start = start;
  end = end;
}

abbrev pub example : List ℕ → List (ℕ × Shown) → List Definition → Example
example text tree definitions = record { text = text; tree = tree; definitions = definitions }

-- a text with the tree and the definitions that it has
abbrev pub blocks_as_defined : List ℕ → Example
blocks_as_defined text =
    let s = source_as commonmark text in example text (with_depths 0 (block_tree s)) (block_definitions s)

-- the examples have the blocks that are written with them
abbrev pub HaveTrees : List Example → Type 0
HaveTrees examples = map (λ e. blocks_as_defined e.text) examples ≡ examples

-- stored items and parts are the blocks that are written with an example
pub record AreAsWritten (e : Example) (nodes : List (Node Item)) (parts : BlockParts) : Type 0 where
  pub tree : with_depths 0 (shown_result nodes parts) ≡ e.tree
  pub definitions : map stored_definition parts.definitions.items ≡ e.definitions

-- a block result of an example's text, whatever it is, is as written with the example
abbrev pub HasResult : Example → Type 0
HasResult e = (nodes : List (Node Item)) (parts : BlockParts)
    → IsBlockResult (source_as commonmark e.text) nodes parts → AreAsWritten e nodes parts

-- that holds for each of them
abbrev pub HaveResults : List Example → Type 0
HaveResults [] = ⊤
HaveResults (e ∷ examples) = HasResult e × HaveResults examples

-- examples that have their trees have their block results
abbrev pub ResultsAreWritten : Type 0
ResultsAreWritten = (examples : List Example) → HaveTrees examples → HaveResults examples
