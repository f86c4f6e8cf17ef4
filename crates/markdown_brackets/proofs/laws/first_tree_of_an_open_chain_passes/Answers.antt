-- By the lemma.
use Rattle.markdown_brackets.proofs.ChainBeginsLemmas.{begins_law}
use Rattle.markdown_brackets.proofs.laws.first_tree_of_an_open_chain_passes.Goals as goal

pub returns : goal.returns
returns c = (begins_law, begins_law)
