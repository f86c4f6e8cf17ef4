-- The events that are left decide, whether or not the next one may come.
use Rattle.std.proofs.Common.{sym, ◌∙◌}
use Rattle.markdown_base.specs.Event.{event_view}
use Rattle.markdown_event_laws.specs.NestedEvents.{awaited_after}
use Rattle.markdown_safe.proofs.PagePlacesLemmas.{next_event, part_ends, part_goes_on}
use Rattle.markdown_safe.proofs.page_part.is_page_part.Goals as goal

pub returns-then-not-may_be_next : goal.returns-then-not-may_be_next
returns-then-not-may_be_next c =
    let l = c.loop-event in
    let e = c.event-item.result in
    part_ends l.invariant.0 l.first
    (next_event c.args.events.now l.event-index e c.loop-event-test.true c.event-item.is)
    l.invariant.1.around l.invariant.2 (sym c.may_be_next.ensures ∙ c.if-not-may_be_next.true)

pub loop-event-preserved : goal.loop-event-preserved
loop-event-preserved c =
    let l = c.loop-event in
    let e = c.event-item.result in (
      awaited_after (event_view e) l.invariant.0,
      c.in_ok-go_on.ensures l.invariant.0 l.invariant.1,
      rw c.starts_table-first.ensures (part_goes_on l.invariant.0 l.first
          (next_event c.args.events.now l.event-index e c.loop-event-test.true c.event-item.is)
          l.invariant.1.around l.invariant.2 (sym c.may_be_next.ensures ∙ c.if-not-may_be_next.false)),
    )
