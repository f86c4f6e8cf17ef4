-- All items in a list are a run.
use Rattle.markdown_inline.specs.NextGives.{IsEventOf}
use Rattle.markdown_inline.proofs.RunLemmas.{collected}
use Rattle.markdown_inline.proofs.runs.gather.Goals as goal

pub returns : goal.returns
returns g c = collected g.F.BrokenLinkCallback.answers IsEventOf (λ p. p) c.args.parser c.collect.result
    c.collect.ensures.ran
