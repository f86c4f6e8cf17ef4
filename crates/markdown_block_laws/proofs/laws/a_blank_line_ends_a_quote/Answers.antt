use Rattle.markdown_block_laws.proofs.BlockLawsLemmas.{blank_ends}
use Rattle.markdown_block_laws.proofs.laws.a_blank_line_ends_a_quote.Goals as goal

pub returns : goal.returns
returns c = blank_ends
