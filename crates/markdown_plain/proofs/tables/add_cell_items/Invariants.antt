-- The text stays, the cell goes on, and the pieces that are left make its other items.
use Rattle.std.proofs.Common.{◌≡◌, ◌-◌, ◌<◌, None, false}
use Rattle.markdown_plain.proofs.Names.{with_items, GoesOn, HasMoreTexts}
use Rattle.markdown_items.specs.LineItems.{item_syntax}
use Rattle.markdown_block_rules.specs.LineContents.{cell_items}
use Rattle.markdown_plain.specs.TableRows.{IsOnePiece}
use Rattle.markdown_plain.proofs.ShownRowsLemmas.{AwaitsPieces, MayAddPiece}
use Rattle.markdown_plain.proofs.tables.add_cell_items.Given as goal

abbrev pub invariant-pieces : goal.invariant-pieces
invariant-pieces l = record {
  goes_on : GoesOn l.fn.placing.builder l.placing.builder l.placing.builder.at;
  texts : HasMoreTexts l.fn.placing.builder l.placing.builder;
  whole : l.escapes ≡ false → l.from < l.cell.to → l.from ≡ l.cell.from;
  items : (l.escapes ≡ false → IsOnePiece l.fn.placing.builder.text l.cell)
      → l.fn.placing.builder.run ≡ None → AwaitsPieces (item_syntax l.syntax) l.cell.to
      (with_items l.fn.placing.builder.levels (cell_items l.fn.placing.builder.text (item_syntax l.syntax)
      l.cell.from l.cell.to)) l.placing.builder l.from;
  may : MayAddPiece l.fn.placing.builder.text l.placing.builder l.from l.cell.to;
}

abbrev pub decreases-pieces : goal.decreases-pieces
decreases-pieces l = l.cell.to - l.from
