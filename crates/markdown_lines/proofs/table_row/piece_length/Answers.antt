-- One byte more or two, or the end of the piece.
use Rattle.std.proofs.Common.{◌≡◌, ◌+◌, ◌<◌, ◌≤◌, ◌∙◌, sym, ap, arith, length, ne_eqb, drop, codes}
use Rattle.markdown_scan.specs.Beginnings.{begins_with}
use Rattle.std.proofs.lemmas.Bool.Decides.{nat_tests}
use Rattle.std.proofs.lemmas.List.{drop_all}
use Rattle.markdown_lines.specs.TableRows.{piece_length}
use Rattle.markdown_lines.proofs.TableRowsLemmas.{is_backslash, one_last, one_plain, piece_ends, piece_on, two_escaped}
use Rattle.markdown_lines.proofs.table_row.piece_length.Goals.{then-bytes-at-ne92, else-bytes-at-ne92}
use Rattle.markdown_lines.proofs.table_row.piece_length.Goals as goal

pub escapes-preserved-then-at-bytes : goal.escapes-preserved-then-at-bytes
escapes-preserved-then-at-bytes c =
    let bytes = c.args.bytes.now in
    let at = c.escapes.at in
    let less : at < length bytes = c.escapes-test.true in
    record {
      within = omega (arith, less);
      value = piece_on bytes at 1 c.escapes.invariant.value (elim c.if-bytes-at-ne92.branch [
        | then-bytes-at-ne92 w ↦ one_plain bytes at less (ne_eqb _ _ w.if-bytes-at-ne92.true)
        | else-bytes-at-ne92 w ↦ one_last bytes at less (grind (arith, nat_tests, w.value-is, c.if-at-bytes.true))
      ]);
    }

pub returns-then-is_escaped_pair-clause-value : goal.returns-then-is_escaped_pair-clause-value
returns-then-is_escaped_pair-clause-value c =
    let bytes = c.args.bytes.now in
    let at = c.escapes.at in
    let less : at < length bytes = c.escapes-test.true in
    elim c.if-bytes-at-ne92.branch [
      | then-bytes-at-ne92 w ↦ absurd
          (w.if-bytes-at-ne92.true (is_backslash _ (sym w.value-is ∙ c.if-at-bytes.false)))
      | else-bytes-at-ne92 w ↦
          let more : at + 1 < length bytes = grind (arith, nat_tests, w.value-is, c.if-at-bytes.false, less) in
          let none = piece_ends bytes at more w.if-bytes-at-ne92.false
          (ap (begins_with (codes "\\\\|")) (sym c.bytes_from.ensures)
          ∙ (sym c.is_escaped_pair.ensures ∙ c.if-is_escaped_pair.true)) in
          omega (arith, c.escapes.invariant.value, none)
    ]

pub escapes-preserved : goal.escapes-preserved
escapes-preserved c =
    let bytes = c.args.bytes.now in
    let at = c.escapes.at in
    let less : at < length bytes = c.escapes-test.true in
    elim c.if-bytes-at-ne92.branch [
      | then-bytes-at-ne92 w ↦ absurd
          (w.if-bytes-at-ne92.true (is_backslash _ (sym w.value-is ∙ c.if-at-bytes.false)))
      | else-bytes-at-ne92 w ↦
          let more : at + 1 < length bytes = grind (arith, nat_tests, w.value-is, c.if-at-bytes.false, less) in
          record {
            within = omega (arith, more);
            value = piece_on bytes at 2 c.escapes.invariant.value
                (two_escaped bytes at more w.if-bytes-at-ne92.false
                (ap (begins_with (codes "\\\\|")) (sym c.bytes_from.ensures)
                ∙ (sym c.is_escaped_pair.ensures ∙ c.if-is_escaped_pair.false)));
          }
    ]

pub returns-clause-value : goal.returns-clause-value
unfolding piece_length
returns-clause-value c =
    let bytes = c.args.bytes.now in
    let at = c.escapes.at in
    let all : length bytes ≤ at = omega (arith, c.escapes-test.false) in
    let none : piece_length (drop at bytes) ≡ 0 = ap piece_length (drop_all at bytes all) in
    omega (arith, c.escapes.invariant.value, c.escapes.invariant.within, none, all)
