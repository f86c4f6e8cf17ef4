use Rattle.markdown_block_laws.proofs.LeafLawsLemmas.{fenced_code_goes_on}
use Rattle.markdown_block_laws.proofs.laws.fenced_code_goes_on_to_its_closing_fence.Goals as goal

pub returns : goal.returns
returns c = fenced_code_goes_on
