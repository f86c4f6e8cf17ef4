-- The links are those of the events that have just been made.
use Rattle.std.proofs.lemmas.Result.{IfErr-weaker, IfOk-weaker}
use Rattle.markdown_additions.specs.Additions.{additions_view}
use Rattle.markdown_base.specs.Source.{source_as}
use Rattle.markdown_additions.proofs.links.links_source.Goals as goal

pub returns-clause-links : goal.returns-clause-links
returns-clause-links c =
    IfOk-weaker c.links_of.result _ _
    (λ x h. h (additions_view c.args.additions) (source_as c.args.syntax c.args.text.now)
    c.in_ok-events.ensures.new) c.links_of.ensures.links

pub returns-clause-refused : goal.returns-clause-refused
returns-clause-refused c =
    IfErr-weaker c.links_of.result _ _
    (λ x h. h (additions_view c.args.additions) (source_as c.args.syntax c.args.text.now)
    c.in_ok-events.ensures.new) c.links_of.ensures.refused
