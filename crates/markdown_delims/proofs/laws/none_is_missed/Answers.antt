-- By the lemma.
use Rattle.markdown_delims.proofs.MissedLawLemmas.{missed-law}
use Rattle.markdown_delims.proofs.laws.none_is_missed.Goals as goal

pub returns : goal.returns
returns c = (missed-law, missed-law)
