-- The slices of the tree of a block result are in place.
use Rattle.std.specs.Prelude.{Bool, false}
use Rattle.markdown_base.specs.Questions.{Answers}
use Rattle.markdown_blocks.specs.Blocks.{text_of_blocks}
use Rattle.markdown_blocks.specs.declared.blocks.Blocks.{Blocks}
use Rattle.markdown_inline.specs.ResolvedDocument.{resolved_blocks}
use Rattle.markdown_resolver.specs.SlicesInPlace.{SlicesInPlace}

-- in the tree of a block result, in which each chain is resolved, the slices of each tree are in its own range, but for
-- the first that a wikilink shows after its pipe
abbrev pub BlockSlicesLaw : Type 0
BlockSlicesLaw = (blocks : Blocks) (asks : Bool) (answers : Answers)
    → SlicesInPlace (text_of_blocks blocks) false (resolved_blocks blocks asks answers).trees
