-- The row has as many cells as the table around it has columns.
use Rattle.std.proofs.Common.{◌≡◌, ◌<◌, ◌∷◌, [], ℕ, List, false, refl, subst, arith}
use Rattle.markdown_builder.specs.EvenRows.{open_columns}
use Rattle.markdown_block_rules.specs.BlockRules.{shown_cells}
use Rattle.markdown_plain.specs.TableRows.{IsOnePiece, PutsTrees}
use Rattle.markdown_plain.proofs.ReadyLinesLemmas.{may_step}
use Rattle.markdown_plain.proofs.ShownRowsLemmas.{cell_added, comes_next, empty_added, may_add_cell, one_piece_in}
use Rattle.markdown_plain.proofs.ShownRowsLemmas.{row_begins, row_even, row_puts, row_some, text_same}
use Rattle.markdown_plain.proofs.tables.place_row.Goals.{in-Some+in_ok-place_cell-in-Some}
use Rattle.markdown_plain.proofs.tables.place_row.Goals.{in-None+in_ok-place_empty_cell-in-None}
use Rattle.markdown_plain.proofs.tables.place_row.Goals as goal

pub cells-init : goal.cells-init
cells-init c =
    let old = c.args.placing.now.builder in
    row_begins (record { text = old.text; syntax = c.args.syntax }) old c.step_to.new.self.builder
    c.open_block.new.self.builder c.args.row c.args.line c.cells_start-start.result
    (rw c.text-text.ensures at c.text-text.utf8) c.requires.may.inside c.step_to.ensures.steps
    c.in_ok-open_block.ensures.opens (rw c.text-text.ensures at c.cells_start-start.ensures)

pub cells-preserved : goal.cells-preserved
cells-preserved c =
    let has = c.cells.invariant in let text = c.args.placing.now.builder.text in let inside = c.requires.may.inside in
    let utf8 = rw c.text-text.ensures at c.text-text.utf8 in
    let less : c.cells.count < open_columns c.args.placing.now.builder =
    rw (← c.columns-columns.ensures) c.cells-test.true in
    elim c.match-next_cell.branch [
      | in-Some+in_ok-place_cell-in-Some w ↦
          let cell = w.in-Some.cell in let e = rw c.text-text.ensures at w.in-Some.ensures.value in
          let next = comes_next has cell utf8 inside e in
          let once : c.holds-escapes.result ≡ false → IsOnePiece text cell = λ none.
          one_piece_in text c.args.line.start c.args.line.stop cell
          (rw (c.holds-escapes.ensures, c.bytes_of.ensures, c.text-text.ensures) at none) inside.stop.0
          (omega (arith, has.low, next.after, next.inside.after)) next.inside.content
          (omega (arith, next.inside.before, next.before)) in
          rw (w.placing-is, w.found-is, w.start-is) (cell_added has cell w.place_cell.new.placing.builder
          c.requires.outside utf8 inside less e
          (subst (λ (t : List ℕ). PutsTrees c.cells.placing.builder w.place_cell.new.placing.builder cell.end
          (shown_cells (record { text = t; syntax = c.args.syntax }) (cell ∷ []))) (text_same has)
          (w.in_ok-place_cell-in-Some.ensures (λ none. rw (text_same has) (once none)))))
      | in-None+in_ok-place_empty_cell-in-None w ↦
          rw (w.placing-is, w.found-is, w.start-is) (empty_added has w.place_empty_cell.new.placing.builder
          c.requires.outside inside less (rw c.text-text.ensures at w.in-None.ensures.value)
          w.in_ok-place_empty_cell-in-None.ensures)
    ]

-- the next cell fits into the row, and so do the empty ones at its end
pub place_cell-requires : goal.place_cell-requires
place_cell-requires c =
    let cell = c.in-Some.cell in
    let next = comes_next c.cells.invariant cell (rw c.text-text.ensures at c.text-text.utf8) c.requires.may.inside
    (rw c.text-text.ensures at c.in-Some.ensures.value) in
    record {
      may = may_add_cell c.cells.invariant cell.start c.requires.outside refl next.after next.inside.start;
      cell = rw (text_same c.cells.invariant) next.inside;
    }

pub place_empty_cell-requires : goal.place_empty_cell-requires
place_empty_cell-requires c =
    may_add_cell c.cells.invariant c.args.line.next c.requires.outside refl c.cells.invariant.high
    c.requires.may.inside.next

-- the line ends after its cells
pub step_to-requires-2 : goal.step_to-requires-2
step_to-requires-2 c =
    let has = c.cells.invariant in
    may_step c.cells.placing.builder c.args.line.next has.high (rw (text_same has) c.requires.may.inside.next)
    (row_some has)

pub close_row-requires-clause-some : goal.close_row-requires-clause-some
close_row-requires-clause-some c = rw c.step_to-2.ensures.steps (row_some c.cells.invariant)

pub close_row-requires-clause-even : goal.close_row-requires-clause-even
close_row-requires-clause-even c =
    row_even c.cells.invariant c.step_to-2.new.self.builder c.step_to-2.ensures.steps
    (omega (arith, c.cells-test.false, c.cells.auto.count-end, c.columns-columns.ensures))

pub returns-clause-found : goal.returns-clause-found
returns-clause-found c =
    let done : c.cells.count ≡ open_columns c.args.placing.now.builder =
    omega (arith, c.cells-test.false, c.cells.auto.count-end, c.columns-columns.ensures) in
    rw (← done) c.cells.invariant.found_are

pub returns-clause-puts : goal.returns-clause-puts
returns-clause-puts c =
    row_puts c.cells.invariant c.step_to-2.new.self.builder c.step_to-2.ensures.steps
    (omega (arith, c.cells-test.false, c.cells.auto.count-end, c.columns-columns.ensures))
    c.close_row.new.self.builder c.close_row.ensures.closes c.close_row.ensures.tree
