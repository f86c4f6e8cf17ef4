-- By the lemma.
use Rattle.markdown_defs.proofs.LookUpLawsLemmas.{matching_names_agree}
use Rattle.markdown_defs.proofs.laws.matching_names_agree.Goals as goal

pub returns : goal.returns
returns c = matching_names_agree
