use Rattle.std.proofs.Common.{sym, ◌∙◌, arith, false}
use Rattle.markdown_scan.specs.Destination.{angle_length}
use Rattle.markdown_scan.proofs.DestinationLemmas.{angle_step, drop_next}
use Rattle.markdown_scan.proofs.destination.angle_length.Goals as goal

pub loop-first-preserved : goal.loop-first-preserved
loop-first-preserved c =
    let split = c.in-Some.ensures.cases in
    let invariant = c.loop-first.invariant in
    record {
      sum = omega (arith, split.1, invariant.sum);
      here = drop_next c.args.bytes.now c.in-Some.tail.now c.loop-first.at c.in-Some.first.now
          (sym split.0 ∙ invariant.here);
      value = rw c.is_bare-escaped.ensures (
          angle_step (angle_length false c.args.bytes.now) c.loop-first.escaped c.loop-first.at c.in-Some.first.now
          c.in-Some.tail.now
          (rw split.0 at invariant.value)
          (sym c.is_bare.ensures ∙ c.if-is_bare.false) (sym c.is_refused.ensures ∙ c.if-is_refused.false));
    }
