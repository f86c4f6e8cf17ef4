-- By the lemma.
use Rattle.markdown_inline.proofs.WholeReadingLemmas.{block_tree-law}
use Rattle.markdown_inline.proofs.laws.reading_of_blocks_is_that_of_their_tree.Goals as goal

pub returns : goal.returns
returns c = block_tree-law
