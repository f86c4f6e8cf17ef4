-- All that is left is given, one event after another.
use Rattle.markdown_inline.specs.NextGives.{IsPlacedOf}
use Rattle.markdown_inline.proofs.RunLemmas.{gave_none, gave_more, gave_rest}
use Rattle.markdown_inline.proofs.walk.Parser.take_rest.Goals as goal

pub walk-init : goal.walk-init
walk-init g c = rw c.new-events.ensures.items (record {
  askable = c.requires;
  given = gave_none g.F.BrokenLinkCallback.answers IsPlacedOf (λ p. p) c.args.self.now;
})

pub walk-preserved : goal.walk-preserved
walk-preserved g c =
    let next = rw c.in-Ok.is at c.in-Some.ensures.gives in
    record {
      askable = c.next_placed.ensures.askable;
      given = rw (c.add.ensures c.if-not-add.false)
          (gave_more g.F.BrokenLinkCallback.answers IsPlacedOf (λ p. p) c.args.self.now
          c.walk.self c.next_placed.new.self c.walk.events.items _ c.walk.invariant.given next);
    }

pub returns-clause-all : goal.returns-clause-all
returns-clause-all g c =
    gave_rest g.F.BrokenLinkCallback.answers IsPlacedOf (λ p. p) c.args.self.now c.walk.self c.next_placed.new.self
    c.walk.events.items
    c.walk.invariant.given c.in_default.ensures.gives

pub returns-in-Err-clause-all : goal.returns-in-Err-clause-all
returns-in-Err-clause-all g c = tt
