-- By the lemma.
use Rattle.markdown_inline.proofs.LimitLawLemmas.{limit-law}
use Rattle.markdown_inline.proofs.laws.references_expand_to_few_bytes.Goals as goal

pub returns : goal.returns
returns c = limit-law
