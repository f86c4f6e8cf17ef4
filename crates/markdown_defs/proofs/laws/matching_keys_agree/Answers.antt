-- By the lemma.
use Rattle.markdown_defs.proofs.LookUpLawsLemmas.{matching_keys_agree}
use Rattle.markdown_defs.proofs.laws.matching_keys_agree.Goals as goal

pub returns : goal.returns
returns c = matching_keys_agree
