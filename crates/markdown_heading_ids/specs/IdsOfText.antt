-- The events of a text with the ids of their headings. What is taken from the start is read off its blocks, so that it
-- is known before the first event.
use Rattle.std.specs.Prelude.{ℕ, List, [], ◌∷◌, Option, Some, None, flat_map}
use Rattle.markdown_base.specs.Event.{HeadingView}
use Rattle.markdown_base.specs.Forest.{Forest, preorder}
use Rattle.markdown_base.specs.Source.{Source}
use Rattle.markdown_base.specs.declared.item.ItemBody.{ItemBody}
use Rattle.markdown_base.specs.declared.item.ItemBody.TheVariants as body
use Rattle.markdown_blocks.specs.Blocks.{block_arena, block_parts}
use Rattle.markdown_blocks.specs.declared.blocks.Blocks.{Blocks}
use Rattle.markdown_block_rules.specs.BlockRules.{block_tree}
use Rattle.markdown_builder.specs.Shown.{Shown, shown_result}
use Rattle.markdown_heading_ids.specs.HeadingIds.{Id, own_ids, with_ids}
use Rattle.markdown_inline.specs.Balanced.{ranged}
use Rattle.markdown_inline.specs.ReadingOfText.{events_of_text}
use Rattle.markdown_outline.specs.Outline.{Ranged}

-- the id of the attributes of a heading
abbrev pub attribute_ids : Option HeadingView → List Id
attribute_ids None = []
attribute_ids (Some h) = own_ids h.id

-- the id that a block has, with the text and the attributes that it refers to: that of a heading, and the name of a
-- footnote definition
abbrev pub block_ids : (text : Option (List ℕ)) → (attributes : Option HeadingView) → ItemBody → List Id
block_ids text attributes (body.FootnoteDefinition ix) = own_ids text
block_ids text attributes other = attribute_ids attributes

-- what is taken from the start in trees of blocks
abbrev pub taken_in_trees : Forest Shown → List Id
taken_in_trees trees = [] ∷ flat_map (λ (a : Shown). block_ids a.text a.heading a.item.body) (preorder trees)

-- the same in a block result, and in a text
abbrev pub taken_in_blocks : Blocks → List Id
taken_in_blocks b = taken_in_trees (shown_result (block_arena b).nodes (block_parts b))

abbrev pub taken_in_text : Source → List Id
taken_in_text s = taken_in_trees (block_tree s)

-- the events of a text that is read without a callback, with the ids of their headings
abbrev pub events_with_ids : Source → List Ranged
events_with_ids s = with_ids (taken_in_text s) (ranged (events_of_text s))
