-- By the lemma.
use Rattle.markdown_delims.proofs.LawLemmas.{joins-law}
use Rattle.markdown_delims.proofs.laws.pairs_join_what_may_pair.Goals as goal

pub returns : goal.returns
returns c = (joins-law, joins-law)
