-- By the lemma.
use Rattle.markdown_delims.proofs.LawLemmas.{order-law}
use Rattle.markdown_delims.proofs.laws.order_of_chains_is_free.Goals as goal

pub returns : goal.returns
returns c = (order-law, order-law)
