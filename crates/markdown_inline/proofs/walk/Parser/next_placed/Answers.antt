-- What the walk stops at gives the item, or none.
use Rattle.std.proofs.Common.{refl}
use Rattle.markdown_base.specs.Item.{range_of}
use Rattle.markdown_inline.specs.NextGives.{IsPlacedOf}
use Rattle.markdown_inline.proofs.ParserLemmas.{advances_none, advances_fault, advances_event, begun_event, begun_fault}
use Rattle.markdown_inline.proofs.ParserLemmas.{steps_failed}
use Rattle.markdown_inline.proofs.ParserLemmas.{start_falls, stop_falls}
use Rattle.markdown_inline.proofs.walk.Parser.next_placed.Goals as goal

pub invariant_of-self : goal.invariant_of-self
invariant_of-self g c = record {
  entered = c.advance.new.self.entered;
  stands = c.in-Leaf.ensures.stops.moved.ready.stands _ c.leaf_event-event.ensures.taken;
}

pub returns-in-Over-clause-gives : goal.returns-in-Over-clause-gives
returns-in-Over-clause-gives g c =
    let h = c.in-Over.ensures.stops in
    advances_none g.F.BrokenLinkCallback.answers IsPlacedOf c.args.self.now h.before c.advance.new.self h.gone h.moved
    h.keeps

pub returns-in-Leaf-clause-gives : goal.returns-in-Leaf-clause-gives
returns-in-Leaf-clause-gives g c =
    let h = c.in-Leaf.ensures.stops in
    begun_event g.F.BrokenLinkCallback.answers c.args.self.now h.before c.advance.new.self _ c.in-Leaf.item _
    c.leaf_event-event.result h.gone h.keeps h.moved
    (record {
      took = record {
        text = refl;
        syntax = refl;
        callback = refl;
        limit = refl;
        work = refl;
        tree = refl;
        tables = c.leaf_event-event.ensures.taken;
      };
      opens = c.leaf_event-event.ensures.opens;
    })

pub returns-in-End-clause-gives : goal.returns-in-End-clause-gives
returns-in-End-clause-gives g c =
    let h = c.in-End.ensures.stops in
    advances_event g.F.BrokenLinkCallback.answers c.args.self.now h.before c.advance.new.self _ (range_of c.in-End.item)
    h.gone h.moved.0 h.keeps h.moved.1

pub returns-in-Refused-clause-gives : goal.returns-in-Refused-clause-gives
returns-in-Refused-clause-gives g c =
    let h = c.in-Refused.ensures.stops in
    advances_fault g.F.BrokenLinkCallback.answers IsPlacedOf c.args.self.now h.before c.advance.new.self h.gone h.moved
    h.keeps

pub returns-in-Ok-clause-gives : goal.returns-in-Ok-clause-gives
returns-in-Ok-clause-gives g c =
    let h = c.in-Start.ensures.stops in
    begun_event g.F.BrokenLinkCallback.answers c.args.self.now h.before c.advance.new.self c.start.new.self
    c.in-Start.item _
    c.in-Ok.event h.gone h.keeps h.moved c.in-Ok.ensures.begun

pub returns-in-Err-clause-gives : goal.returns-in-Err-clause-gives
returns-in-Err-clause-gives g c =
    let h = c.in-Start.ensures.stops in
    begun_fault g.F.BrokenLinkCallback.answers IsPlacedOf c.args.self.now h.before c.advance.new.self c.start.new.self
    c.in-Start.item _ c.in-Err.fault h.gone h.keeps h.moved c.in-Err.ensures.begun

pub returns-in-Leaf-clause-falls : goal.returns-in-Leaf-clause-falls
returns-in-Leaf-clause-falls g c =
    let h = c.in-Leaf.ensures.stops in
    stop_falls g.F.BrokenLinkCallback.answers c.args.self.now h.before c.advance.new.self h.gone h.moved.falls

pub returns-in-Ok-clause-falls : goal.returns-in-Ok-clause-falls
returns-in-Ok-clause-falls g c =
    let h = c.in-Start.ensures.stops in
    start_falls g.F.BrokenLinkCallback.answers c.args.self.now h.before c.advance.new.self c.start.new.self
    c.in-Start.item _
    c.start.result h.gone h.moved c.start.ensures.begun

pub returns-in-Err-clause-falls : goal.returns-in-Err-clause-falls
returns-in-Err-clause-falls g c =
    let h = c.in-Start.ensures.stops in
    start_falls g.F.BrokenLinkCallback.answers c.args.self.now h.before c.advance.new.self c.start.new.self
    c.in-Start.item _
    c.start.result h.gone h.moved c.start.ensures.begun

pub returns-in-End-clause-falls : goal.returns-in-End-clause-falls
returns-in-End-clause-falls g c =
    let h = c.in-End.ensures.stops in
    stop_falls g.F.BrokenLinkCallback.answers c.args.self.now h.before c.advance.new.self h.gone h.moved.1

pub returns-in-Refused-clause-falls : goal.returns-in-Refused-clause-falls
returns-in-Refused-clause-falls g c =
    let h = c.in-Refused.ensures.stops in
    steps_failed g.F.BrokenLinkCallback.answers c.args.self.now h.before c.advance.new.self h.gone h.moved
