-- By the lemma.
use Rattle.markdown_resolver.proofs.NestedChainsLemmas.{document_nests}
use Rattle.markdown_resolver.proofs.laws.pairs_of_each_chain_nest.Goals as goal

pub returns : goal.returns
returns c = document_nests
