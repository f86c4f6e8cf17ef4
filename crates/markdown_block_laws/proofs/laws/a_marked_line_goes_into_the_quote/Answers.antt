use Rattle.markdown_block_laws.proofs.BlockLawsLemmas.{marked_line}
use Rattle.markdown_block_laws.proofs.laws.a_marked_line_goes_into_the_quote.Goals as goal

pub returns : goal.returns
returns c = marked_line
