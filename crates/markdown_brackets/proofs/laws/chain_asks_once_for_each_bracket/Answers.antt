-- By the lemma.
use Rattle.markdown_brackets.proofs.QuestionEndsLemmas.{asks_at_most}
use Rattle.markdown_brackets.proofs.laws.chain_asks_once_for_each_bracket.Goals as goal

pub returns : goal.returns
returns c = (asks_at_most, asks_at_most)
