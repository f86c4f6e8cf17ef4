use Rattle.std.proofs.Common.{arith, sym, ◌∙◌}
use Rattle.markdown_callers.proofs.LinterLemmas.{line_ended, line_continued}
use Rattle.markdown_callers.proofs.linter.position_of.Goals as goal
use Rattle.markdown_callers.proofs.linter.position_of.Goals.{then-is_line_end, else-is_line_end}

pub loop-at-preserved : goal.loop-at-preserved
loop-at-preserved c =
    elim c.if-is_line_end.branch [
      | then-is_line_end w ↦
          let came = line_ended c.as_bytes-bytes.result.now c.loop-at.at
          (sym c.is_line_end.ensures ∙ w.if-is_line_end.true) in
          record { lines = omega arith; few = omega arith; begins = omega arith }
      | else-is_line_end w ↦
          let came = line_continued c.as_bytes-bytes.result.now c.loop-at.at
          (sym c.is_line_end.ensures ∙ w.if-is_line_end.false) in
          record { lines = omega arith; few = omega arith; begins = omega arith }
    ]
