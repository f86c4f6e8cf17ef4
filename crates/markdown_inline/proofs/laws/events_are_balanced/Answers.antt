-- By the lemma.
use Rattle.markdown_inline.proofs.BalancedLemmas.{balanced-law}
use Rattle.markdown_inline.proofs.laws.events_are_balanced.Goals as goal

pub returns : goal.returns
returns c = balanced-law
