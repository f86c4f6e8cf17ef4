-- The closure is called with the callback's question, and its answer is returned.
use Rattle.std.proofs.Common.{refl}
use Rattle.markdown_defs.proofs.callback.ClosureBrokenLinkCallback.handle_broken_link.Goals as goal

pub returns-clause-answered : goal.returns-clause-answered
returns-clause-answered g c = (c.args.link, c.f.result, refl, refl, c.f.ensures)
