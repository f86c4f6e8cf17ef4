-- By the lemma.
use Rattle.markdown_resolver.proofs.ChainQuestionsLemmas.{resolved_ends}
use Rattle.markdown_resolver.proofs.laws.questions_of_a_chain_end_apart.Goals as goal

pub returns : goal.returns
returns c = (resolved_ends, resolved_ends)
