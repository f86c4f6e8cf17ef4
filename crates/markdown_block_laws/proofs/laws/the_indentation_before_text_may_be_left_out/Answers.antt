use Rattle.markdown_block_laws.proofs.BlockLawsLemmas.{indentation_left_out}
use Rattle.markdown_block_laws.proofs.laws.the_indentation_before_text_may_be_left_out.Goals as goal

pub returns : goal.returns
returns c = indentation_left_out
