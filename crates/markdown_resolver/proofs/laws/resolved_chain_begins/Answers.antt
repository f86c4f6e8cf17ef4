-- By the lemma.
use Rattle.markdown_resolver.proofs.ResolvingLemmas.{resolved-begins}
use Rattle.markdown_resolver.proofs.laws.resolved_chain_begins.Goals as goal

pub returns : goal.returns
returns c = (resolved-begins, resolved-begins)
