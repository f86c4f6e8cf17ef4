-- By the lemma.
use Rattle.markdown_inline.proofs.SlicesOfTreeLemmas.{block_slices-law}
use Rattle.markdown_inline.proofs.laws.slices_of_blocks_are_in_place.Goals as goal

pub returns : goal.returns
returns c = block_slices-law
