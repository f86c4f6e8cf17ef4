-- By the lemma.
use Rattle.markdown_brackets.proofs.BracketLawLemmas.{chain_law}
use Rattle.markdown_brackets.proofs.laws.chain_hands_on_later_answers.Goals as goal

pub returns : goal.returns
returns c = (chain_law, chain_law)
