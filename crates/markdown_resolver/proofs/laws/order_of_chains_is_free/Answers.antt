-- By the lemma.
use Rattle.markdown_resolver.proofs.ResolvingLemmas.{all_paired-paired}
use Rattle.markdown_resolver.proofs.laws.order_of_chains_is_free.Goals as goal

pub returns : goal.returns
returns c = (all_paired-paired, all_paired-paired)
