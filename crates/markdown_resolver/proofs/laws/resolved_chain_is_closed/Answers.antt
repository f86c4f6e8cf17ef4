-- By the lemma.
use Rattle.markdown_resolver.proofs.ResolvingLemmas.{resolved-literal}
use Rattle.markdown_resolver.proofs.laws.resolved_chain_is_closed.Goals as goal

pub returns : goal.returns
returns c = (resolved-literal, resolved-literal)
