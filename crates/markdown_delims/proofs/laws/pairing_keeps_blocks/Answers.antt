-- By the lemma.
use Rattle.markdown_delims.proofs.LawLemmas.{keeps-law}
use Rattle.markdown_delims.proofs.laws.pairing_keeps_blocks.Goals as goal

pub returns : goal.returns
returns c = (keeps-law, keeps-law)
