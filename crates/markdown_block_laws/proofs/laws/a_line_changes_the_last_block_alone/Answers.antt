use Rattle.markdown_block_laws.proofs.BlockLawsLemmas.{last_block}
use Rattle.markdown_block_laws.proofs.laws.a_line_changes_the_last_block_alone.Goals as goal

pub returns : goal.returns
returns c = last_block
