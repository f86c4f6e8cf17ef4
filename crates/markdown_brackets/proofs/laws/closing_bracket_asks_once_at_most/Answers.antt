-- By the lemma.
use Rattle.markdown_brackets.proofs.BracketLawLemmas.{closed_law}
use Rattle.markdown_brackets.proofs.laws.closing_bracket_asks_once_at_most.Goals as goal

pub returns : goal.returns
returns c = (closed_law, closed_law)
