use Rattle.markdown_block_laws.proofs.TableLawsLemmas.{even_rows}
use Rattle.markdown_block_laws.proofs.laws.rows_are_even.Goals as goal

pub returns : goal.returns
returns c = even_rows
