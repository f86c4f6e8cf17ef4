-- The cell, closed, is a tree of the row.
use Rattle.std.proofs.Common.{[], refl, sym}
use Rattle.markdown_items.proofs.RestOfLineLemmas.{no_items}
use Rattle.markdown_plain.proofs.LeafTreesLemmas.{no_text}
use Rattle.markdown_plain.proofs.ShownRowsLemmas.{cell_puts}
use Rattle.markdown_plain.proofs.tables.place_empty_cell.Goals as goal

pub returns : goal.returns
returns c =
    let now = c.open_block.new.self.builder in
    cell_puts {filled = now} [] c.step_to.ensures.steps c.in_ok-open_block.ensures.opens refl
    (no_text now now refl) (sym (no_items now.levels))
    (rw (c.in_ok-open_block.ensures.opens, c.step_to.ensures.steps) refl) c.close.ensures.closes c.close.ensures.tree
