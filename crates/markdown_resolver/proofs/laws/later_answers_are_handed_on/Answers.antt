-- By the lemma.
use Rattle.markdown_resolver.proofs.LawLemmas.{answers_handed_on}
use Rattle.markdown_resolver.proofs.laws.later_answers_are_handed_on.Goals as goal

pub returns : goal.returns
returns c = (answers_handed_on, answers_handed_on)
