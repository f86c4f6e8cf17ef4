-- By the lemma.
use Rattle.markdown_resolver.proofs.SlicesInPlaceLemmas.{document_in_place}
use Rattle.markdown_resolver.proofs.laws.slices_of_each_chain_are_in_place.Goals as goal

pub returns : goal.returns
returns c = document_in_place
