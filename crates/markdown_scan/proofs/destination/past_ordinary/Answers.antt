-- No byte of those looked at together may matter.
use Rattle.std.proofs.Common.{◌+◌, arith}
use Rattle.markdown_scan.specs.Together.{may_matter}
use Rattle.markdown_scan.proofs.TogetherLemmas.{past_further, past_none}
use Rattle.markdown_scan.proofs.destination.past_ordinary.Goals as goal

pub ordinary-init : goal.ordinary-init
ordinary-init c = past_none may_matter c.args.bytes.now

pub ordinary-preserved : goal.ordinary-preserved
ordinary-preserved c =
    let past = c.ordinary.invariant in
    let within = past.within in
    let room = c.ordinary-test.true in
    past_further may_matter c.args.bytes.now c.ordinary.start (c.ordinary.start + 16) (omega arith)
    (omega (arith, within, room)) past c.if-not-holds_any.ensures
