-- The cells are after a `|` that the row begins with.
use Rattle.std.proofs.Common.{◌≡◌, ◌∙◌, sym, ap, arith, slice_index, slice_range}
use Rattle.markdown_base.specs.Bytes.{pipe}
use Rattle.markdown_lines.proofs.TableRowsLemmas.{past_pipe, pipe_within}
use Rattle.markdown_lines.proofs.table_row.cells_start.Goals as goal

pub returns-then-byte_or_zero-eq124 : goal.returns-then-byte_or_zero-eq124
returns-then-byte_or_zero-eq124 c =
    let text = c.args.text.now in
    let is : slice_index (slice_range text c.args.at c.args.stop) 0 ≡ pipe =
    ap (λ xs. slice_index xs 0) (sym c.bytes_of.ensures)
    ∙ (sym c.byte_or_zero.ensures ∙ c.if-byte_or_zero-eq124.true) in
    past_pipe text c.args.at c.args.stop c.saturating_add.result is
    (omega (arith, c.saturating_add.ensures, pipe_within text c.args.at c.args.stop is, c.ranges.stop.fits))
