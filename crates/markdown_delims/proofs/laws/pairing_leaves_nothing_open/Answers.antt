-- By the lemma.
use Rattle.markdown_delims.proofs.LawLemmas.{closed-law}
use Rattle.markdown_delims.proofs.laws.pairing_leaves_nothing_open.Goals as goal

pub returns : goal.returns
returns c = (closed-law, closed-law)
