-- By the lemma.
use Rattle.markdown_delims.proofs.JoinedRunsLemmas.{joined-law}
use Rattle.markdown_delims.proofs.laws.each_pair_joins_runs.Goals as goal

pub returns : goal.returns
returns c = (joined-law, joined-law)
