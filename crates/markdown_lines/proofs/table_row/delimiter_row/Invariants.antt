-- The alignments so far are those of the cells so far.
use Rattle.std.proofs.Common.{◌≡◌, ◌+◌, ◌-◌, length}
use Rattle.markdown_lines.specs.TableRows.{cell_alignments, cells_left, row_cells_at}
use Rattle.markdown_lines.proofs.TableRowsLemmas.{with_more}
use Rattle.markdown_lines.proofs.table_row.delimiter_row.Given as goal

abbrev pub invariant-cells : goal.invariant-cells
invariant-cells l = record {
  count : length l.alignments.items + length (cells_left l.text l.start l.stop)
      ≡ length (row_cells_at l.text l.at l.stop);
  alignments : cell_alignments l.text (row_cells_at l.text l.at l.stop)
      ≡ with_more l.alignments.items (cell_alignments l.text (cells_left l.text l.start l.stop));
}

abbrev pub decreases-cells : goal.decreases-cells
decreases-cells l = length l.text + 1 - l.start
