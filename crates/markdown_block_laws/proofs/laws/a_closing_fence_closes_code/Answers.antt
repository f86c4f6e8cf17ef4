use Rattle.markdown_block_laws.proofs.LeafLawsLemmas.{closing_fence_closes}
use Rattle.markdown_block_laws.proofs.laws.a_closing_fence_closes_code.Goals as goal

pub returns : goal.returns
returns c = closing_fence_closes
