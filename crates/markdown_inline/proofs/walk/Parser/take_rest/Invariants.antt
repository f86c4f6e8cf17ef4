-- What was given so far, and what was asked.
use Rattle.std.specs.Prelude.{IfSome}
use Rattle.markdown_inline.specs.NextGives.{IsPlacedOf}
use Rattle.markdown_inline.specs.ParserLeft.{parser_callback, parser_steps}
use Rattle.markdown_inline.proofs.RunLemmas.{GaveFirst}
use Rattle.markdown_inline.proofs.walk.Parser.take_rest.Given as goal

abbrev pub invariant-walk : goal.invariant-walk
invariant-walk g l = record {
  askable : IfSome (parser_callback l.self) g.F.BrokenLinkCallback.can_ask;
  given : GaveFirst g.F.BrokenLinkCallback.answers IsPlacedOf (λ p. p) l.fn.self l.self l.events.items;
}

abbrev pub decreases-walk : goal.decreases-walk
decreases-walk g l = parser_steps l.self
