use Rattle.markdown_block_laws.proofs.MetadataLawsLemmas.{metadata_outermost}
use Rattle.markdown_block_laws.proofs.laws.metadata_is_outermost.Goals as goal

pub returns : goal.returns
returns c = metadata_outermost
