use Rattle.markdown_block_laws.proofs.BlockLawsLemmas.{only_paragraphs}
use Rattle.markdown_block_laws.proofs.laws.only_paragraphs_go_on_lazily.Goals as goal

pub returns : goal.returns
returns c = only_paragraphs
