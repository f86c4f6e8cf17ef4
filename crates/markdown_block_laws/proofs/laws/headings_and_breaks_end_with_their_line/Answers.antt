use Rattle.markdown_block_laws.proofs.LeafLawsLemmas.{headings_end}
use Rattle.markdown_block_laws.proofs.laws.headings_and_breaks_end_with_their_line.Goals as goal

pub returns : goal.returns
returns c = headings_end
