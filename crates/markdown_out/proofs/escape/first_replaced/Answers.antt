-- No byte of the last ones is replaced.
use Rattle.std.proofs.Common.{arith}
use Rattle.markdown_out.proofs.ReplacedLemmas.{before_both, kept_to_end}
use Rattle.markdown_out.proofs.escape.first_replaced.Goals as goal

pub returns-then-not-holds_replaced : goal.returns-then-not-holds_replaced
returns-then-not-holds_replaced c =
    let third = c.past_kept-start-3.ensures in
    let far = third.high in
    let room = c.if-end-from-ge-FEW.true in
    let near = c.if-end-start-lt-FEW.true in
    let all = before_both _ _ _ _ c.past_kept-start.ensures (before_both _ _ _ _ c.past_kept-start-2.ensures third) in
    kept_to_end c.args.bytes.now c.args.from c.past_kept-start-3.result 8 all (omega (arith, room))
    (omega (arith, near, far)) c.if-not-holds_replaced.ensures
