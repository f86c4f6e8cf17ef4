-- The cell, closed, is a tree of the row.
use Rattle.std.proofs.Common.{◌≡◌, arith, refl}
use Rattle.markdown_base.specs.declared.item.ItemBody.TheVariants as body
use Rattle.markdown_items.specs.LineItems.{item_syntax}
use Rattle.markdown_block_rules.specs.LineContents.{cell_items}
use Rattle.markdown_plain.proofs.ReadyLinesLemmas.{IsInLeafAt, goes_at, may_step, opened_from, step_at, stepped_at}
use Rattle.markdown_plain.proofs.ShownRowsLemmas.{cell_puts}
use Rattle.markdown_plain.proofs.tables.place_cell.Goals.{In_ok-add_cell_items}
use Rattle.markdown_plain.proofs.tables.place_cell.Goals as goal

pub step_to-requires : goal.step_to-requires
step_to-requires c =
    may_step c.args.placing.now.builder c.args.cell.start c.requires.may.low c.requires.may.boundary c.requires.may.some

pub open_block-requires : goal.open_block-requires
open_block-requires c = record { block = refl; outside = rw c.step_to.ensures.steps c.requires.may.outside }

pub add_cell_items-requires : goal.add_cell_items-requires
add_cell_items-requires c =
    let here = opened_from c.args.placing.now.builder c.step_to.new.self.builder c.open_block.new.self.builder
    c.args.cell.start body.TableCell c.step_to.ensures.steps c.in_ok-open_block.ensures.opens refl in
    record {
      inside = record { leaf = here.inside.leaf; some = here.inside.some };
      ahead = rw here.here c.requires.cell.after;
      cell = rw here.same c.requires.cell;
    }

-- the content is appended in the cell
in_cell : (c : In_ok-add_cell_items) → IsInLeafAt c.args.placing.now.builder.text
    c.add_cell_items.new.placing.builder.at c.add_cell_items.new.placing.builder
in_cell c =
    goes_at c.args.placing.now.builder.text c.args.cell.start c.add_cell_items.new.placing.builder.at
    c.open_block.new.self.builder c.add_cell_items.new.placing.builder c.in_ok-add_cell_items.ensures.goes_on
    (opened_from c.args.placing.now.builder c.step_to.new.self.builder c.open_block.new.self.builder c.args.cell.start
    body.TableCell c.step_to.ensures.steps c.in_ok-open_block.ensures.opens refl)

pub step_to-requires-2 : goal.step_to-requires-2
step_to-requires-2 c =
    step_at _ _ c.args.cell.end _ (in_cell (goal.at.step_to-requires-2 c).In_ok-add_cell_items)
    (omega (arith, c.in_ok-add_cell_items.ensures.within, c.requires.cell.before)) c.requires.cell.end

pub close-requires : goal.close-requires
close-requires c =
    let end = stepped_at _ _ c.args.cell.end _ _ c.step_to-2.ensures.steps
    (in_cell (goal.at.close-requires c).In_ok-add_cell_items) in
    record { some = end.inside.some; other = end.inside.plain }

pub returns : goal.returns
returns c = λ once.
    let filled = c.in_ok-add_cell_items.ensures in let opened = c.in_ok-open_block.ensures.opens in
    let same : c.open_block.new.self.builder.text ≡ c.args.placing.now.builder.text =
    rw (opened, c.step_to.ensures.steps) refl in
    cell_puts (cell_items c.args.placing.now.builder.text (item_syntax c.args.syntax) c.args.cell.from c.args.cell.to)
    c.step_to.ensures.steps opened filled.goes_on filled.texts
    (rw same at (filled.items (λ whole. rw same (once whole)) (rw opened refl))) c.step_to-2.ensures.steps
    c.close.ensures.closes c.close.ensures.tree
