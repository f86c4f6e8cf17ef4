use Rattle.markdown_block_laws.proofs.LeafLawsLemmas.{closed_metadata_ends}
use Rattle.markdown_block_laws.proofs.laws.closed_metadata_ends_before_a_line.Goals as goal

pub returns : goal.returns
returns c = closed_metadata_ends
