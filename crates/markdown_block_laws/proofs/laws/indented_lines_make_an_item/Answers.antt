use Rattle.markdown_block_laws.proofs.IndentedLinesLemmas.{item_of_lines}
use Rattle.markdown_block_laws.proofs.laws.indented_lines_make_an_item.Goals as goal

pub returns : goal.returns
returns c = item_of_lines
