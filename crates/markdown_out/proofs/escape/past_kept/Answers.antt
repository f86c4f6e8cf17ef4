-- No byte of those looked at together is replaced.
use Rattle.std.proofs.Common.{◌+◌, arith}
use Rattle.markdown_out.proofs.ReplacedLemmas.{kept_further}
use Rattle.markdown_out.proofs.escape.past_kept.Goals as goal

pub kept-preserved : goal.kept-preserved
kept-preserved c =
    let kept = c.kept.invariant in
    let low = kept.low in
    let high = kept.high in
    let room = c.kept-test.true in
    record {
      low = omega (arith, low);
      high = omega (arith, high, room);
      kept = kept_further c.args.bytes.now c.args.from c.kept.start (c.kept.start + c.args.count) (omega arith)
          (omega (arith, high, room)) kept.kept c.if-not-holds_replaced.ensures;
    }
