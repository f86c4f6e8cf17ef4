-- By the lemma.
use Rattle.markdown_defs.proofs.LookUpLawsLemmas.{tests_matching}
use Rattle.markdown_defs.proofs.laws.names_are_tested_by_matching.Goals as goal

pub returns : goal.returns
returns c = tests_matching
