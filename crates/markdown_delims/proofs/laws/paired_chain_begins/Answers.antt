-- By the lemma.
use Rattle.markdown_delims.proofs.BeginLawLemmas.{begins-law}
use Rattle.markdown_delims.proofs.laws.paired_chain_begins.Goals as goal

pub returns : goal.returns
returns c = (begins-law, begins-law)
