-- Definitions for clauses on block results, trees and items, re-exported so that a caller names this crate alone.

-- a block result
pub use Rattle.markdown_blocks.specs.Blocks.{text_of_blocks, block_options, block_source, block_arena, block_parts}
pub use Rattle.markdown_blocks.specs.Blocks.{IsBlocksOf}
pub use Rattle.markdown_blocks.specs.declared.blocks.Blocks.{Blocks}
pub use Rattle.markdown_base.specs.WellFormed.{IsWellFormed, KeepsRules, AllKeepRules, PartCounts, counts_of}
pub use Rattle.markdown_base.specs.Coverage.{Covers, is_covered, is_in_block, is_inside}
pub use Rattle.markdown_builder.specs.HeadingsHoldInline.{HeadingsHoldInline, is_heading_block}
pub use Rattle.markdown_builder.specs.EvenRows.{HasEvenRows, KeepsRows, EachRowContains, is_table, is_table_row}
pub use Rattle.markdown_builder.specs.Shown.{Shown, shown_result}
-- the block result of a text, by definition
pub use Rattle.markdown_block_rules.specs.BlockResults.{IsBlockResult}
pub use Rattle.markdown_block_rules.specs.BlockRules.{block_tree, block_definitions, block_footnotes}
pub use Rattle.markdown_builder.specs.BuilderView.{Definition}
pub use Rattle.markdown_base.specs.Source.{Source, source_as}
-- a tree, as nodes by number and as a forest of items
pub use Rattle.markdown_base.specs.Arena.{Arena, items_of, child_of, sibling_of}
pub use Rattle.markdown_base.specs.ArenaChanges.{innermost, single, changed_at, follower, led_to, appended}
pub use Rattle.markdown_base.specs.BlockTree.{Numbered, tree_of}
pub use Rattle.markdown_base.specs.Forest.{Forest, nil, node, Throughout, Each, preorder, roots, first_root}
pub use Rattle.markdown_base.specs.declared.node.Node.{Node}
-- an item
pub use Rattle.markdown_base.specs.Item.{is_open, is_inline, is_childless, is_resolved, is_block, is_table_cell}
pub use Rattle.markdown_base.specs.Item.{is_tight_paragraph, is_unplaced, text_named, alignments_named}
pub use Rattle.markdown_base.specs.Item.{attributes_named, range_of, LiesIn}
pub use Rattle.markdown_base.specs.declared.item.Item.{Item}
pub use Rattle.markdown_base.specs.declared.item.ItemBody.{ItemBody}
pub use Rattle.markdown_base.specs.declared.index.CowIndex.{CowIndex}
pub use Rattle.markdown_base.specs.declared.index.LinkIndex.{LinkIndex}
pub use Rattle.markdown_base.specs.declared.index.AlignmentIndex.{AlignmentIndex}
pub use Rattle.markdown_base.specs.declared.index.HeadingIndex.{HeadingIndex}
-- the parts that items refer to
pub use Rattle.markdown_base.specs.BlockParts.{DefinitionView, definition_view}
pub use Rattle.markdown_base.specs.StoredTexts.{HasShortTexts}
pub use Rattle.markdown_base.specs.declared.block_parts.BlockParts.{BlockParts}
pub use Rattle.markdown_base.specs.declared.block_parts.LinkDef.{LinkDef}
pub use Rattle.markdown_base.specs.declared.block_parts.HeadingAttributes.{HeadingAttributes}
