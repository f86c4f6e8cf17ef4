-- The block result is one of the source.
use Rattle.markdown_inline.proofs.StartLemmas.{of_some_text}
use Rattle.markdown_inline.proofs.walk.Parser.of_source.Goals as goal

pub returns-clause-left : goal.returns-clause-left
returns-clause-left g c = of_some_text _ c.in_ok-blocks.blocks c.from_blocks.result c.in_ok-blocks.ensures.blocks
    c.from_blocks.ensures.left c.from_blocks.ensures.definitions
