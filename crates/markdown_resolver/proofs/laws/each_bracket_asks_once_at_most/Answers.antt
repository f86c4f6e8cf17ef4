-- By the lemma.
use Rattle.markdown_resolver.proofs.ChainQuestionsLemmas.{resolved_asks}
use Rattle.markdown_resolver.proofs.laws.each_bracket_asks_once_at_most.Goals as goal

pub returns : goal.returns
returns c = (resolved_asks, resolved_asks)
