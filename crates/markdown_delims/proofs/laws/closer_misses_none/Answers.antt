-- By the lemma.
use Rattle.markdown_delims.proofs.LawLemmas.{misses-law}
use Rattle.markdown_delims.proofs.laws.closer_misses_none.Goals as goal

pub returns : goal.returns
returns c = (misses-law, misses-law)
