-- No byte of those looked at together is a `|`.
use Rattle.std.proofs.Common.{◌+◌, ◌≤◌, ◌==◌, ◌∙◌, sym, arith, length}
use Rattle.markdown_base.specs.Bytes.{pipe}
use Rattle.markdown_base.proofs.ByteListLemmas.{none_further}
use Rattle.markdown_lines.proofs.table_row.unpiped_length.Goals as goal

pub together-preserved : goal.together-preserved
together-preserved c =
    let kept = c.together.invariant in
    let bytes = c.args.bytes.now in
    let start = c.together.at in
    let within : start + 16 ≤ length bytes = omega (arith, kept.within, c.together-test.true) in
    record {
      within = within;
      none = λ p less. none_further (λ byte. byte == pipe) bytes 0 start (start + 16) (omega arith) within
          (λ p low. kept.none p) (sym c.holds.ensures ∙ c.if-not-holds.true) p (omega arith) less;
    }
