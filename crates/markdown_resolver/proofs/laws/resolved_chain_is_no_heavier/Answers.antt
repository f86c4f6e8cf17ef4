-- By the lemma.
use Rattle.markdown_resolver.proofs.LawLemmas.{no_heavier}
use Rattle.markdown_resolver.proofs.laws.resolved_chain_is_no_heavier.Goals as goal

pub returns : goal.returns
returns c = (no_heavier, no_heavier)
