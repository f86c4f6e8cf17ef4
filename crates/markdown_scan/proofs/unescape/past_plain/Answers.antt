-- No byte of those looked at together begins an escape or entity.
use Rattle.std.proofs.Common.{◌+◌, arith}
use Rattle.markdown_scan.specs.Together.{may_begin_reference}
use Rattle.markdown_scan.proofs.TogetherLemmas.{past_further, past_none, past_all}
use Rattle.markdown_scan.proofs.unescape.past_plain.Goals as goal

pub plain-init : goal.plain-init
plain-init c = past_none may_begin_reference c.args.bytes.now

pub plain-preserved : goal.plain-preserved
plain-preserved c =
    let past = c.plain.invariant in
    let within = past.within in
    let room = c.plain-test.true in
    past_further may_begin_reference c.args.bytes.now c.plain.start (c.plain.start + 16) (omega arith)
    (omega (arith, within, room)) past c.if-not-may_hold_reference.ensures

pub returns-then-not-may_hold_reference-2 : goal.returns-then-not-may_hold_reference-2
returns-then-not-may_hold_reference-2 c =
    let past = c.plain.invariant in
    let within = past.within in
    let room = c.if-end-ge-TOGETHER.true in
    let near = c.if-end-start-lt-TOGETHER.true in
    past_all may_begin_reference c.args.bytes.now c.plain.start 16 (omega (arith, room)) (omega (arith, near, within))
    past c.if-not-may_hold_reference-2.ensures
