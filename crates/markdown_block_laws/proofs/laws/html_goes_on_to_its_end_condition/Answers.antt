use Rattle.markdown_block_laws.proofs.LeafLawsLemmas.{html_goes_on}
use Rattle.markdown_block_laws.proofs.laws.html_goes_on_to_its_end_condition.Goals as goal

pub returns : goal.returns
returns c = html_goes_on
