-- Where the loop is left: at an error item, at a refusal of its own, and at the end.
use Rattle.std.proofs.Common.{inl, inr}
use Rattle.std.proofs.lemmas.Result.{err_from_is_err_and}
use Rattle.markdown_lint_json.proofs.PlacedEventsLemmas.{all_placed, cut_placed, stops_placed, wrote_more, wrote_none}
use Rattle.markdown_lint_json.proofs.events.push_json_with_places.Goals as goal

pub loop-item-init : goal.loop-item-init
loop-item-init g c = wrote_none _ _

pub loop-item-preserved : goal.loop-item-preserved
loop-item-preserved g c =
    wrote_more _ _ _ _ _ _ c.in_ok-placed.placed c.loop-item.invariant c.in_ok-placed.was
    c.in_ok-push_placed.ensures.ok

pub returns-in_err-placed-clause-err : goal.returns-in_err-placed-clause-err
returns-in_err-placed-clause-err g c =
    let p = err_from_is_err_and c.from_residual.result c.from_residual.ensures.1 in
    let read = rw c.into_iter-item-iterator.ensures.into_iter_gives at c.loop-item.yielded_by in
    rw (p.1, p.2) (inl (stops_placed g.I.Iterator.next_gives _ _ _ _ _ _ _ _ _ read c.in-Some.ensures.steps
    c.in_err-placed.was c.loop-item.invariant))

pub returns-in_err-push_placed-clause-err : goal.returns-in_err-push_placed-clause-err
returns-in_err-push_placed-clause-err g c =
    let r = c.from_residual-in_err-push_placed in
    let p = err_from_is_err_and r.result r.ensures.1 in
    let read = rw c.into_iter-item-iterator.ensures.into_iter_gives at c.loop-item.yielded_by in
    rw p.1 (inr (
      p.2,
      cut_placed g.I.Iterator.next_gives _ _ _ _ _ _ _ _ _ c.in_ok-placed.placed read c.in-Some.ensures.steps
          c.in_ok-placed.was c.loop-item.invariant c.in_err-push_placed.ensures.err,
    ))

pub returns-clause-ok : goal.returns-clause-ok
returns-clause-ok g c =
    let read = rw c.into_iter-item-iterator.ensures.into_iter_gives at c.loop-item.yielded_by in
    all_placed g.I.Iterator.next_gives _ _ _ _ _ _ _ read c.in-None.ensures.steps c.loop-item.invariant
