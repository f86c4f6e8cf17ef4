use Rattle.markdown_block_laws.proofs.IndentedLinesLemmas.{item_after_blank}
use Rattle.markdown_block_laws.proofs.laws.an_item_may_begin_with_a_blank_line.Goals as goal

pub returns : goal.returns
returns c = item_after_blank
