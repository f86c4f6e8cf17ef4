use Rattle.markdown_block_laws.proofs.TableLawsLemmas.{tables_in_place}
use Rattle.markdown_block_laws.proofs.laws.table_parts_are_in_tables.Goals as goal

pub returns : goal.returns
returns c = tables_in_place
