-- By the lemma.
use Rattle.markdown_resolver.proofs.ResolvingLemmas.{resolved-quiet}
use Rattle.markdown_resolver.proofs.laws.quiet_chain_asks_nothing.Goals as goal

pub returns : goal.returns
returns c = (resolved-quiet, resolved-quiet)
