-- What the walk stops at gives the event, or none.
use Rattle.std.proofs.Common.{refl}
use Rattle.markdown_base.specs.Item.{range_of}
use Rattle.markdown_inline.specs.NextGives.{IsEventOf}
use Rattle.markdown_inline.proofs.ParserLemmas.{advances_none, advances_fault, advances_event, begun_event, begun_start}
use Rattle.markdown_inline.proofs.ParserLemmas.{next_event}
use Rattle.markdown_inline.proofs.walk.ParserIterator.next.Goals as goal

pub invariant_of-self : goal.invariant_of-self
invariant_of-self g c = record {
  entered = c.advance.new.self.entered;
  stands = c.in-Leaf.ensures.stops.moved.ready.stands _ c.leaf_event-event.ensures.taken;
}

pub returns-in-Over-clause-steps : goal.returns-in-Over-clause-steps
returns-in-Over-clause-steps g c =
    let h = c.in-Over.ensures.stops in
    advances_none g.F.BrokenLinkCallback.answers IsEventOf c.args.self.now h.before c.advance.new.self h.gone h.moved
    h.keeps

pub returns-in-Leaf-clause-steps : goal.returns-in-Leaf-clause-steps
returns-in-Leaf-clause-steps g c =
    let h = c.in-Leaf.ensures.stops in
    next_event g.F.BrokenLinkCallback.answers c.args.self.now _ _ (range_of c.in-Leaf.item)
    (begun_event g.F.BrokenLinkCallback.answers c.args.self.now h.before c.advance.new.self _ c.in-Leaf.item _
    c.leaf_event-event.result h.gone h.keeps h.moved
    (record {
      took = record {
        text = refl;
        syntax = refl;
        callback = refl;
        limit = refl;
        work = refl;
        tree = refl;
        tables = c.leaf_event-event.ensures.taken;
      };
      opens = c.leaf_event-event.ensures.opens;
    }))

pub returns-in-End-clause-steps : goal.returns-in-End-clause-steps
returns-in-End-clause-steps g c =
    let h = c.in-End.ensures.stops in
    next_event g.F.BrokenLinkCallback.answers c.args.self.now c.advance.new.self _ (range_of c.in-End.field-1)
    (advances_event g.F.BrokenLinkCallback.answers c.args.self.now h.before c.advance.new.self _
    (range_of c.in-End.field-1) h.gone h.moved.0 h.keeps h.moved.1)

pub returns-in-Refused-clause-steps : goal.returns-in-Refused-clause-steps
returns-in-Refused-clause-steps g c =
    let h = c.in-Refused.ensures.stops in
    advances_fault g.F.BrokenLinkCallback.answers IsEventOf c.args.self.now h.before c.advance.new.self h.gone h.moved
    h.keeps

pub returns-in-Start-clause-steps : goal.returns-in-Start-clause-steps
returns-in-Start-clause-steps g c =
    let h = c.in-Start.ensures.stops in
    begun_start g.F.BrokenLinkCallback.answers c.args.self.now h.before c.advance.new.self c.start.new.self
    c.in-Start.item _
    c.start.result h.gone h.keeps h.moved c.start.ensures.begun
