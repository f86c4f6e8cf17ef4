-- By the lemma.
use Rattle.markdown_brackets.proofs.BracketWeightLemmas.{no_heavier}
use Rattle.markdown_brackets.proofs.laws.brackets_make_no_chain_heavier.Goals as goal

pub returns : goal.returns
returns c = (no_heavier, no_heavier)
