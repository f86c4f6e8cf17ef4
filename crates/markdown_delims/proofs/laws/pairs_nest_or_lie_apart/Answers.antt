-- By the lemma.
use Rattle.markdown_delims.proofs.NestedPairsLemmas.{nest-law}
use Rattle.markdown_delims.proofs.laws.pairs_nest_or_lie_apart.Goals as goal

pub returns : goal.returns
returns c = (nest-law, nest-law)
