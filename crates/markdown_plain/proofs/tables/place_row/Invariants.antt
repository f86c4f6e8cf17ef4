-- The row is open, with the cells so far, and the others of the line are left.
use Rattle.markdown_plain.proofs.ShownRowsLemmas.{HasRow}
use Rattle.markdown_plain.proofs.tables.place_row.Given as goal

abbrev pub invariant-cells : goal.invariant-cells
invariant-cells l =
    HasRow (record { text = l.fn.placing.builder.text; syntax = l.syntax }) l.fn.placing.builder l.fn.row l.line
    l.placing.builder l.found l.count l.start
