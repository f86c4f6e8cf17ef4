-- One step after another, up to a stop.
use Rattle.markdown_inline.proofs.ParserLemmas.{gone_nowhere, gone_on}
use Rattle.markdown_inline.proofs.walk.Parser.advance.Goals as goal

pub walk-init : goal.walk-init
walk-init g c = record { askable = c.requires; gone = gone_nowhere g.F.BrokenLinkCallback.answers c.args.self.now }

pub walk-preserved : goal.walk-preserved
walk-preserved g c = record {
  askable = c.advance_once.ensures.askable;
  gone = gone_on g.F.BrokenLinkCallback.answers c.args.self.now c.walk.self c.advance_once.new.self
      c.walk.invariant.gone
      c.in_default.ensures.moves.0 c.advance_once.ensures.keeps c.in_default.ensures.moves.1;
}

pub returns-in-Some-clause-stops : goal.returns-in-Some-clause-stops
returns-in-Some-clause-stops g c = record {
  before = c.walk.self;
  gone = c.walk.invariant.gone;
  moved = c.in-Some.ensures.moves;
  keeps = c.advance_once.ensures.keeps;
}
