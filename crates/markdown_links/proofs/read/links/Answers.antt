-- Where the loop is left: at an error item, at a refused allocation, and at the end.
use Rattle.std.proofs.Common.{refl, inl, inr}
use Rattle.std.proofs.lemmas.Result.{err_from_is_err_and}
use Rattle.markdown_links.proofs.LinksReadLemmas.{AreLinksOfAll-from, MeetsError-from, NeedsLinkMemory-event}
use Rattle.markdown_links.proofs.LinksReadLemmas.{TookIn-more, TookIn-none}
use Rattle.markdown_links.proofs.read.links.Goals as goal

pub loop-item-init : goal.loop-item-init
loop-item-init g c = TookIn-none _ _ c.new-so_far.ensures.kept c.new-so_far.ensures.none refl

pub loop-item-preserved : goal.loop-item-preserved
loop-item-preserved g c =
    TookIn-more (c.in_ok-event.event, c.in_ok-event.range) c.loop-item.invariant c.in_ok-event.was
    c.in_ok-take_in.ensures.kept c.in_ok-take_in.ensures.ok

pub returns-in_err-event-clause-fault : goal.returns-in_err-event-clause-fault
returns-in_err-event-clause-fault g c =
    let p = err_from_is_err_and c.from_residual.result c.from_residual.ensures.1 in
    let read = rw c.into_iter-item-iterator.ensures.into_iter_gives at c.loop-item.yielded_by in
    let stopped = MeetsError-from g.I.Iterator.next_gives _ _ _ _ read c.in-Some.ensures.steps
    c.in_err-event.was c.loop-item.invariant in
    rw (p.1, p.2) (inl stopped)

pub returns-in_err-take_in-clause-fault : goal.returns-in_err-take_in-clause-fault
returns-in_err-take_in-clause-fault g c =
    let r = c.from_residual-in_err-take_in in
    let p = err_from_is_err_and r.result r.ensures.1 in
    let read = rw c.into_iter-item-iterator.ensures.into_iter_gives at c.loop-item.yielded_by in
    let refused = c.in_err-take_in.ensures.refused in
    let needs = NeedsLinkMemory-event g.I.Iterator.next_gives _ _ _ (c.in_ok-event.event, c.in_ok-event.range) read
    c.in-Some.ensures.steps c.in_ok-event.was c.loop-item.invariant refused.1 in
    rw (p.1, p.2) (inr (refused.0, needs))

pub returns-clause-links : goal.returns-clause-links
returns-clause-links g c =
    let read = rw c.into_iter-item-iterator.ensures.into_iter_gives at c.loop-item.yielded_by in
    AreLinksOfAll-from g.I.Iterator.next_gives _ _ _ read c.in-None.ensures.steps c.loop-item.invariant
    c.finish.ensures
