use Rattle.markdown_block_laws.proofs.QuotedLinesLemmas.{quoted_lines}
use Rattle.markdown_block_laws.proofs.laws.quoted_lines_make_a_quote.Goals as goal

pub returns : goal.returns
returns c = quoted_lines
