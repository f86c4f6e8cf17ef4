use Rattle.markdown_block_laws.proofs.ListLawsLemmas.{loose_as_said}
use Rattle.markdown_block_laws.proofs.laws.a_list_is_loose_as_said.Goals as goal

pub returns : goal.returns
returns c = loose_as_said
