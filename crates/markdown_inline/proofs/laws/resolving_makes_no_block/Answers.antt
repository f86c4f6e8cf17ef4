-- By the lemma.
use Rattle.markdown_inline.proofs.ResolvedShapesLemmas.{shapes-law}
use Rattle.markdown_inline.proofs.laws.resolving_makes_no_block.Goals as goal

pub returns : goal.returns
returns c = (shapes-law, shapes-law)
