-- By the lemma.
use Rattle.markdown_delims.proofs.WeightLawLemmas.{weight-law}
use Rattle.markdown_delims.proofs.laws.paired_chain_is_no_heavier.Goals as goal

pub returns : goal.returns
returns c = (weight-law, weight-law)
