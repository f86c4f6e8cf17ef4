-- By the lemma.
use Rattle.markdown_defs.proofs.LookUpLawsLemmas.{finds_named}
use Rattle.markdown_defs.proofs.laws.a_name_finds_what_matches.Goals as goal

pub returns : goal.returns
returns c = finds_named
