-- Where the loop is left: at an error item, at an error of the writer's, and at the end.
use Rattle.std.proofs.Common.{◌≤◌, length, arith, refl, inl, inr}
use Rattle.std.specs.String.{string_bytes}
use Rattle.std.proofs.lemmas.Result.{err_from_is_err_and, IfOk-weaker, IfErr-weaker}
use Rattle.markdown_out.proofs.HtmlCorrectLemmas.{Wrote-none, Wrote-more, StopsAtError-from}
use Rattle.markdown_out.proofs.HtmlCorrectLemmas.{IsOwnFault-event, IsOwnFault-end, IsRendered-from}
use Rattle.markdown_out.proofs.WriterLemmas.{highest}
use Rattle.markdown_out.proofs.html.push.push_html_by.Goals as goal

pub loop-item-init : goal.loop-item-init
loop-item-init g c = Wrote-none _ _ _ c.new-writer.ensures refl

pub loop-item-preserved : goal.loop-item-preserved
loop-item-preserved g c =
    let v = c.loop-item.writer.alignments in
    let fits : length v.items ≤ highest = omega (arith, v.ok.0, v.ok.1, v.small) in
    Wrote-more c.in_ok-event.event fits c.loop-item.invariant c.in_ok-event.was
    c.in_ok-event-2.ensures.ok c.in_ok-event-2.ensures.told

pub returns-in_err-event-clause-err : goal.returns-in_err-event-clause-err
returns-in_err-event-clause-err g c =
    let p = err_from_is_err_and c.from_residual.result c.from_residual.ensures.1 in
    let read = rw c.into_iter-item-iterator.ensures.into_iter_gives at c.loop-item.yielded_by in
    let stopped = StopsAtError-from g.I.Iterator.next_gives _ _ _ _ read c.in-Some.ensures.steps
    c.in_err-event.was c.loop-item.invariant in
    rw (p.1, p.2) (inl stopped)

pub returns-in_err-event-2-clause-err : goal.returns-in_err-event-2-clause-err
returns-in_err-event-2-clause-err g c =
    let r = c.from_residual-in_err-event-2 in
    let p = err_from_is_err_and r.result r.ensures.1 in
    let v = c.loop-item.writer.alignments in
    let fits : length v.items ≤ highest = omega (arith, v.ok.0, v.ok.1, v.small) in
    let read = rw c.into_iter-item-iterator.ensures.into_iter_gives at c.loop-item.yielded_by in
    let refused = c.in_err-event-2.ensures.err in
    rw (p.1, p.2) (inr (IsOwnFault-event g.I.Iterator.next_gives _ _ _
    {new = string_bytes c.loop-item.s} _ c.in_ok-event.event fits read c.in-Some.ensures.steps
    c.in_ok-event.was c.loop-item.invariant refused.0 refused.1))

pub returns-clause-ok : goal.returns-clause-ok
returns-clause-ok g c =
    let read = rw c.into_iter-item-iterator.ensures.into_iter_gives at c.loop-item.yielded_by in
    IfOk-weaker c.finish.result _ _
    (λ _ h. IsRendered-from g.I.Iterator.next_gives _ _ _ read c.in-None.ensures.steps
    c.loop-item.invariant h)
    c.finish.ensures.ok

pub returns-clause-err : goal.returns-clause-err
returns-clause-err g c =
    let read = rw c.into_iter-item-iterator.ensures.into_iter_gives at c.loop-item.yielded_by in
    IfErr-weaker c.finish.result _ _
    (λ fault h. inr (IsOwnFault-end g.I.Iterator.next_gives _ _ _ fault read
    c.in-None.ensures.steps c.loop-item.invariant h.0 h.1))
    c.finish.ensures.err
