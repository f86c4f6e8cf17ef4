-- The first part goes on up to a cut, or to the end.
use Rattle.std.proofs.Common.{◌∷◌, ◌∙◌, get_or, sym, arith}
use Rattle.markdown_base.specs.Bytes.{pipe}
use Rattle.markdown_lines.proofs.TableRowsLemmas.{part_ends, part_goes_on_at, part_is_all, unpiped_part}
use Rattle.markdown_lines.proofs.table_row.part_length.Goals as goal

pub loop-at-init : goal.loop-at-init
loop-at-init c = unpiped_part c.args.bytes.now c.unpiped_length-at.result c.unpiped_length-at.ensures.none

pub returns-then-is_cut_at : goal.returns-then-is_cut_at
returns-then-is_cut_at c =
    part_ends c.args.bytes.now c.loop-at.at (get_or (pipe ∷ c.args.bytes.now) c.loop-at.at 0)
    (omega (arith, c.loop-at-test.true)) c.loop-at.invariant
    (sym c.is_cut_at.ensures ∙ c.if-is_cut_at.true)

pub loop-at-preserved : goal.loop-at-preserved
loop-at-preserved c =
    part_goes_on_at c.args.bytes.now c.loop-at.at (omega (arith, c.loop-at-test.true)) c.loop-at.invariant
    (sym c.is_cut_at.ensures ∙ c.if-is_cut_at.false)

pub returns : goal.returns
returns c =
    part_is_all c.args.bytes.now c.loop-at.at (get_or (pipe ∷ c.args.bytes.now) c.loop-at.at 0)
    (omega (arith, c.loop-at-test.false)) c.loop-at.invariant
