use Rattle.markdown_block_laws.proofs.LeafLawsLemmas.{closing_line_closes}
use Rattle.markdown_block_laws.proofs.laws.a_closing_line_closes_metadata.Goals as goal

pub returns : goal.returns
returns c = closing_line_closes
