use Rattle.markdown_block_laws.proofs.BlockLawsLemmas.{marker_left_out}
use Rattle.markdown_block_laws.proofs.laws.the_marker_before_text_may_be_left_out.Goals as goal

pub returns : goal.returns
returns c = marker_left_out
