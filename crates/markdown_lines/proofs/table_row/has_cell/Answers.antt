-- There is a cell where what is left of the row is not white space alone.
use Rattle.std.proofs.Common.{◌∙◌, List, ap, length, nat_lt}
use Rattle.markdown_lines.specs.declared.table_row.Cell.{Cell}
use Rattle.markdown_lines.specs.TableRows.{cells_from}
use Rattle.markdown_lines.proofs.TableRowsLemmas.{has_some}
use Rattle.markdown_lines.proofs.table_row.has_cell.Goals as goal

pub returns : goal.returns
returns c =
    let rest = c.bytes_of-rest.result.now in
    ap (λ n. nat_lt n (length rest)) c.row_white_length.ensures.value
    ∙ (has_some c.cells_start.result rest
    ∙ (ap (λ bytes. nat_lt 0 (length (cells_from c.cells_start.result bytes))) c.bytes_of-rest.ensures
    ∙ ap (λ (cells : List Cell). nat_lt 0 (length cells)) c.cells_start.ensures))
