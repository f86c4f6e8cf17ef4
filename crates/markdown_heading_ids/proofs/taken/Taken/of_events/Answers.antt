-- Where the loop is left: at an error item, at a refused allocation, and at the end.
use Rattle.std.proofs.Common.{refl, inl}
use Rattle.std.proofs.lemmas.Result.{err_from_is_err_and}
use Rattle.markdown_heading_ids.proofs.TakenReadLemmas.{IsTakenByAll-from, MeetsError-from, TookIds-more, TookIds-none}
use Rattle.markdown_heading_ids.proofs.taken.Taken.of_events.Goals as goal

pub loop-item-init : goal.loop-item-init
loop-item-init g c = TookIds-none _ _ c.in_ok-taken.ensures.taken refl

pub loop-item-preserved : goal.loop-item-preserved
loop-item-preserved g c =
    TookIds-more (c.in_ok-event.event, c.in_ok-event._range) c.loop-item.invariant c.in_ok-event.was
    c.in_ok-take_in.ensures.taken

pub returns-in_err-event-clause-fault : goal.returns-in_err-event-clause-fault
returns-in_err-event-clause-fault g c =
    let r = c.from_residual-in_err-event in
    let p = err_from_is_err_and r.result r.ensures.1 in
    let read = rw c.into_iter-item-iterator.ensures.into_iter_gives at c.loop-item.yielded_by in
    let stopped = MeetsError-from g.I.Iterator.next_gives _ _ _ _ read c.in-Some.ensures.steps
    c.in_err-event.was c.loop-item.invariant in
    rw (p.1, p.2) (inl stopped)

pub returns-clause-taken : goal.returns-clause-taken
returns-clause-taken g c =
    let read = rw c.into_iter-item-iterator.ensures.into_iter_gives at c.loop-item.yielded_by in
    IsTakenByAll-from g.I.Iterator.next_gives _ _ _ read c.in-None.ensures.steps c.loop-item.invariant
