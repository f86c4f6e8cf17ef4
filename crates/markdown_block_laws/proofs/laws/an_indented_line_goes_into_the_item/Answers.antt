use Rattle.markdown_block_laws.proofs.BlockLawsLemmas.{indented_line}
use Rattle.markdown_block_laws.proofs.laws.an_indented_line_goes_into_the_item.Goals as goal

pub returns : goal.returns
returns c = indented_line
