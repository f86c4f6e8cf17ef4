-- By the lemma.
use Rattle.markdown_resolver.proofs.WholeLemmas.{pass_one-whole}
use Rattle.markdown_resolver.proofs.laws.runs_stay_whole.Goals as goal

pub returns : goal.returns
returns c = (pass_one-whole, pass_one-whole)
