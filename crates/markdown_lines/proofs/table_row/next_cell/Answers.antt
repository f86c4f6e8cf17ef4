-- White space alone is no cell; otherwise the first part is one.
use Rattle.std.proofs.Common.{◌≡◌, ◌≤◌, ◌-◌, ◌∙◌, sym, ap, arith, length, min, take, drop, length-take, length-take-le}
use Rattle.std.proofs.Common.{length-drop, slice_range, ℕ, List}
use Rattle.std.specs.List.{list_all, prefix_len, suffix_len}
use Rattle.markdown_lines.specs.TableRows.{is_row_white}
use Rattle.markdown_lines.proofs.LineBytesLemmas.{trimmed_is}
use Rattle.markdown_lines.proofs.TableRowsLemmas.{all_white, next_found, no_cell, not_all_white, white_of_first}
use Rattle.markdown_lines.proofs.table_row.next_cell.Goals as goal

pub returns-then-blank-rest-clause-value : goal.returns-then-blank-rest-clause-value
returns-then-blank-rest-clause-value c =
    no_cell c.args.at (slice_range c.args.text.now c.args.at c.args.stop)
    (ap (list_all is_row_white) (sym c.bytes_of-rest.ensures)
    ∙ all_white c.bytes_of-rest.result.now (sym c.row_white_length-blank.ensures.value ∙ c.if-blank-rest.true))

pub returns-clause-value : goal.returns-clause-value
returns-clause-value c =
    let rest = c.bytes_of-rest.result.now in
    let count = c.part_length-length.result in
    let part = take count rest in
    let size = ap length c.bytes_of-rest.ensures
    ∙ length-take (c.args.stop - c.args.at) (drop c.args.at c.args.text.now) in
    let less = c.part_length-length.ensures.within in
    let few = length-take-le count rest less in
    let blank = c.row_white_length-blank.ensures.value in
    let white : c.min-white.result ≡ prefix_len is_row_white part =
    c.min-white.ensures ∙ (ap (λ n. min n count) blank ∙ sym (white_of_first is_row_white rest count)) in
    let within : c.min-white.result ≤ length part = omega (arith, c.min-white.ensures, few) in
    let is = c.bytes_from.ensures ∙ ap (λ w. drop w part) white in
    let trimmed = c.row_trimmed_length.ensures.value
    ∙ (ap (λ (xs : List ℕ). length xs - suffix_len is_row_white xs) is
    ∙ trimmed_is is_row_white (drop (prefix_len is_row_white part) part)) in
    let left = ap length c.bytes_from.ensures ∙ length-drop c.min-white.result part in
    next_found c.args.text.now rest c.args.at c.args.stop count c.saturating_add.result c.saturating_add-from.result
    c.saturating_add-2.result c.bytes_of-rest.ensures
    (not_all_white rest (λ all. c.if-blank-rest.false (blank ∙ all)))
    c.part_length-length.ensures
    (omega (arith, c.saturating_add.ensures, size, less, c.ranges.at.fits, c.ranges.stop.fits))
    (omega (
      arith,
      c.saturating_add-from.ensures,
      white,
      within,
      few,
      size,
      less,
      c.ranges.at.fits,
      c.ranges.stop.fits,
    ))
    (omega (
      arith,
      c.saturating_add-2.ensures,
      c.saturating_add-from.ensures,
      trimmed,
      c.row_trimmed_length.ensures.within,
      left,
      within,
      few,
      size,
      less,
      c.ranges.at.fits,
      c.ranges.stop.fits,
    ))
