-- All items in a list are a run.
use Rattle.markdown_inline.specs.NextGives.{IsPlacedOf}
use Rattle.markdown_inline.specs.ParserLeft.{offset_parser}
use Rattle.markdown_inline.proofs.RunLemmas.{collected}
use Rattle.markdown_inline.proofs.runs.gather_offsets.Goals as goal

pub returns : goal.returns
returns g c = collected g.F.BrokenLinkCallback.answers IsPlacedOf (offset_parser {F = g.row.F.Denot}) c.args.iter
    c.collect.result
    c.collect.ensures.ran
