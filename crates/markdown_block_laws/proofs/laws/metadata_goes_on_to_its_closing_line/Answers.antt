use Rattle.markdown_block_laws.proofs.LeafLawsLemmas.{metadata_goes_on}
use Rattle.markdown_block_laws.proofs.laws.metadata_goes_on_to_its_closing_line.Goals as goal

pub returns : goal.returns
returns c = metadata_goes_on
