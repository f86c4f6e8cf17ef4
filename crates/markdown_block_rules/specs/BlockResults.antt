-- The block result of a text: its tree with what the items refer to, its link reference definitions, and the labels of
-- its footnotes, as they are stored; and what holds of how they are stored.
use Rattle.std.specs.Prelude.{◌≡◌, List, map}
use Rattle.markdown_base.specs.BlockTree.{tree_of}
use Rattle.markdown_base.specs.Coverage.{Covers}
use Rattle.markdown_base.specs.CowText.{text_of}
use Rattle.markdown_base.specs.WellFormed.{IsWellFormed}
use Rattle.markdown_base.specs.declared.block_parts.BlockParts.{BlockParts}
use Rattle.markdown_base.specs.declared.item.Item.{Item}
use Rattle.markdown_base.specs.declared.node.Node.{Node}
use Rattle.markdown_builder.specs.BuilderView.{stored_definition}
use Rattle.markdown_builder.specs.HeadingsHoldInline.{HeadingsHoldInline}
use Rattle.markdown_builder.specs.Shown.{shown_result}
use Rattle.markdown_builder.specs.Tightness.{TightInTightLists}
use Rattle.markdown_base.specs.Source.{Source}
use Rattle.markdown_block_rules.specs.BlockRules.{block_definitions, block_footnotes, block_tree}

-- stored items and parts are the block result of a text: the one that the rules of blocks give. It is well formed and
-- covers the text; its tight lists hold tight paragraphs, and its headings inline items alone.
pub record IsBlockResult (s : Source) (nodes : List (Node Item)) (parts : BlockParts) : Type 0 where
  pub tree : shown_result nodes parts ≡ block_tree s
  pub definitions : map stored_definition parts.definitions.items ≡ block_definitions s
  pub footnotes : map text_of parts.footnotes.items ≡ block_footnotes s
  pub well_formed : IsWellFormed s.text nodes parts
  pub covers : Covers s.text nodes parts
  pub tight : TightInTightLists nodes
  pub headings_hold_inline : HeadingsHoldInline (tree_of nodes)
