use Rattle.markdown_block_laws.proofs.LeafLawsLemmas.{end_condition_ends}
use Rattle.markdown_block_laws.proofs.laws.an_end_condition_ends_html.Goals as goal

pub returns : goal.returns
returns c = end_condition_ends
