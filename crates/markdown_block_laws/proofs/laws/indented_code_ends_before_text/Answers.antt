use Rattle.markdown_block_laws.proofs.LeafLawsLemmas.{indented_code_ends}
use Rattle.markdown_block_laws.proofs.laws.indented_code_ends_before_text.Goals as goal

pub returns : goal.returns
returns c = indented_code_ends
