-- The cells so far and those that are left are all cells.
use Rattle.std.proofs.Common.{◌≡◌, ◌+◌, ◌-◌, ◌≤◌, length}
use Rattle.markdown_lines.specs.TableRows.{cells_left, row_cells_at}
use Rattle.markdown_lines.proofs.table_row.count_cells.Given as goal

abbrev pub invariant-cells : goal.invariant-cells
invariant-cells l = record {
  few : l.count ≤ l.start;
  all : l.count + length (cells_left l.text l.start l.stop) ≡ length (row_cells_at l.text l.at l.stop);
}

abbrev pub decreases-cells : goal.decreases-cells
decreases-cells l = length l.text + 1 - l.start
