use Rattle.std.proofs.Common.{◌≡◌, ◌≤◌, suc, length, arith, length-append}
use Rattle.markdown_brackets.proofs.OpenerLemmas.{waiting_image, waiting_live}
use Rattle.markdown_brackets.proofs.openers.OpenerStack.take_nearest.Goals as goal

pub returns-then-self-left : goal.returns-then-self-left
returns-then-self-left c =
    let left = c.pop.new.self.items in
    let fits : c.self.inside.live_from ≤ length left = omega arith in
    rw (← c.self.view_is, c.in_ok-opener.ensures.items)
    (waiting_live c.self.inside.live_from left c.in_ok-opener.opener fits)

pub returns : goal.returns
returns c =
    let left = c.pop.new.self.items in
    let held = rw (c.in_ok-opener.ensures.items, length-append) at c.self.invariant in
    let all : c.self.inside.live_from ≡ suc (length left) = omega (arith, held) in
    let size : c.len-left.result ≡ length left = omega arith in
    rw (← c.self.view_is, c.in_ok-opener.ensures.items, all, size) (waiting_image left c.in_ok-opener.opener)
