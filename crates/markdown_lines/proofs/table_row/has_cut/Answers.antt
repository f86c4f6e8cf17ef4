-- The row has a cut where its first part is not all of it.
use Rattle.markdown_lines.proofs.TableRowsLemmas.{cut_is}
use Rattle.markdown_lines.proofs.table_row.has_cut.Goals as goal

pub returns : goal.returns
returns c = cut_is c.args.bytes.now c.part_length.result c.part_length.ensures
