-- What is written is that of the events that have just been made.
use Rattle.std.proofs.lemmas.Result.{IfOk-weaker}
use Rattle.markdown_additions.specs.Additions.{additions_view}
use Rattle.markdown_base.specs.Source.{source_as}
use Rattle.markdown_additions.proofs.written.written_source.Goals as goal

pub returns-in-Html-clause-written : goal.returns-in-Html-clause-written
returns-in-Html-clause-written c =
    rw c.in-Html.is (IfOk-weaker c.html.result _ _
    (λ x h. h (additions_view c.args.additions) (source_as c.args.syntax c.args.text.now)
    c.in_ok-events.ensures.new) c.html.ensures.written)

pub returns-in-SafeHtml-clause-written : goal.returns-in-SafeHtml-clause-written
returns-in-SafeHtml-clause-written c =
    rw c.in-SafeHtml.is (IfOk-weaker c.safe_html.result _ _
    (λ x h. h (additions_view c.args.additions) (source_as c.args.syntax c.args.text.now)
    c.in_ok-events.ensures.new) c.safe_html.ensures.written)

pub returns-in-SafeHtml-clause-tree : goal.returns-in-SafeHtml-clause-tree
returns-in-SafeHtml-clause-tree c =
    rw c.in-SafeHtml.is (IfOk-weaker c.safe_html.result _ _
    (λ x h. h (additions_view c.args.additions) (source_as c.args.syntax c.args.text.now)
    c.in_ok-events.ensures.new) c.safe_html.ensures.tree)

pub returns-in-Lines-clause-written : goal.returns-in-Lines-clause-written
returns-in-Lines-clause-written c =
    rw c.in-Lines.is (IfOk-weaker c.lines.result _ _
    (λ x h. h (additions_view c.args.additions) (source_as c.args.syntax c.args.text.now)
    c.in_ok-events.ensures.new) c.lines.ensures.written)
