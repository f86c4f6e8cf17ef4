-- One digit more.
use Rattle.markdown_lines.proofs.ListMarkersLemmas.{number_more}
use Rattle.markdown_lines.proofs.list_marker.number_of.Goals as goal

pub loop-digit-preserved : goal.loop-digit-preserved
loop-digit-preserved c = λ few all.
    let before = c.loop-digit.invariant few all in
    number_more c.args.digits.now c.loop-digit.digit-index c.loop-digit.number c.saturating_mul.result
    c.saturating_sub.result c.saturating_add-number.result c.loop-digit-test.true few all before.0 before.1
    c.saturating_mul.ensures c.saturating_sub.ensures c.saturating_add-number.ensures
