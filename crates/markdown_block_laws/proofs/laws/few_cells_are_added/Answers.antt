use Rattle.markdown_block_laws.proofs.AddedCellsLemmas.{few_added}
use Rattle.markdown_block_laws.proofs.laws.few_cells_are_added.Goals as goal

pub returns : goal.returns
returns c = few_added
