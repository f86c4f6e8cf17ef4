-- What contracts see of a `Blocks`, and what it means that it is the block result of a text.
use Rattle.std.specs.Prelude.{◌≡◌, ℕ, List}
use Rattle.markdown_base.specs.declared.block_parts.BlockParts.{BlockParts}
use Rattle.markdown_base.specs.declared.item.Item.{Item}
use Rattle.markdown_base.specs.declared.options.Options.{Options}
use Rattle.markdown_base.specs.Arena.{Arena}
use Rattle.markdown_base.specs.Source.{Source, source_as}
use Rattle.markdown_block_rules.specs.BlockResults.{IsBlockResult}
use Rattle.markdown_blocks.specs.declared.blocks.Blocks.{Blocks}

-- the text
abbrev pub text_of_blocks : Blocks → List ℕ
text_of_blocks b = b.text.now

-- the options of the caller
abbrev pub block_options : Blocks → Options
block_options b = b.options

-- the text, and what is read of it
abbrev pub block_source : Blocks → Source
block_source b = source_as b.syntax b.text.now

-- the tree
abbrev pub block_arena : Blocks → Arena Item
block_arena b = b.tree

-- the parts that its items refer to
abbrev pub block_parts : Blocks → BlockParts
block_parts b = b.parts

-- b is the block result of a source: the one that the rules of blocks make of it
pub record IsBlocksOf (s : Source) (b : Blocks) : Type 0 where
  pub source : block_source b ≡ s
  pub by_rules : IsBlockResult s (block_arena b).nodes (block_parts b)
