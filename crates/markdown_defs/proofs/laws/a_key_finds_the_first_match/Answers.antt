-- By the lemma.
use Rattle.markdown_defs.proofs.LookUpLawsLemmas.{finds_first_match}
use Rattle.markdown_defs.proofs.laws.a_key_finds_the_first_match.Goals as goal

pub returns : goal.returns
returns c = finds_first_match
