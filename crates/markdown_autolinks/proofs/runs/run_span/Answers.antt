-- The first and the last of a run.
use Rattle.std.proofs.Common.{ap, sym, ◌∙◌}
use Rattle.std.specs.Option.{option_copied}
use Rattle.markdown_autolinks.proofs.RunLemmas.{span_of_ends}
use Rattle.markdown_autolinks.proofs.runs.run_span.Goals as goal

pub returns : goal.returns
returns c = span_of_ends c.args.run.now c.in_ok-first.first.now c.in_ok-last.last.now
    (sym c.first.ensures.value ∙ ap option_copied c.in_ok-first.was)
    (sym c.last.ensures.value ∙ ap option_copied c.in_ok-last.was)
