-- The walk has gone on from where it was, and has given nothing.
use Rattle.std.specs.Prelude.{IfSome}
use Rattle.markdown_inline.specs.ParserLeft.{parser_callback, parser_steps}
use Rattle.markdown_inline.specs.Moves.{HasGone}
use Rattle.markdown_inline.proofs.walk.Parser.advance.Given as goal

abbrev pub invariant-walk : goal.invariant-walk
invariant-walk g l = record {
  askable : IfSome (parser_callback l.self) g.F.BrokenLinkCallback.can_ask;
  gone : HasGone g.F.BrokenLinkCallback.answers l.fn.self l.self;
}

abbrev pub decreases-walk : goal.decreases-walk
decreases-walk g l = parser_steps l.self
