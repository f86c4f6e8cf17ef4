-- By the lemma.
use Rattle.markdown_inline.proofs.LimitLawLemmas.{look_up-law}
use Rattle.markdown_inline.proofs.laws.look_ups_expand_to_few_bytes.Goals as goal

pub returns : goal.returns
returns c = look_up-law
