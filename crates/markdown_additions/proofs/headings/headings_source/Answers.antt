-- The headings are those of the events that have just been made.
use Rattle.std.proofs.lemmas.Result.{IfErr-weaker, IfOk-weaker}
use Rattle.markdown_additions.specs.Additions.{additions_view}
use Rattle.markdown_base.specs.Source.{source_as}
use Rattle.markdown_additions.proofs.headings.headings_source.Goals as goal

pub returns-in-Some-clause-headings : goal.returns-in-Some-clause-headings
returns-in-Some-clause-headings c =
    rw c.in-Some.is (IfOk-weaker c.safe_headings.result _ _
    (λ x h. h (additions_view c.args.additions) (source_as c.args.syntax c.args.text.now)
    c.in_ok-events.ensures.new) c.safe_headings.ensures.headings)

pub returns-in-Some-clause-refused : goal.returns-in-Some-clause-refused
returns-in-Some-clause-refused c =
    IfErr-weaker c.safe_headings.result _ _
    (λ x h. h (additions_view c.args.additions) (source_as c.args.syntax c.args.text.now)
    c.in_ok-events.ensures.new) c.safe_headings.ensures.refused

pub returns-in-None-clause-headings : goal.returns-in-None-clause-headings
returns-in-None-clause-headings c =
    rw c.in-None.is (IfOk-weaker c.plain_headings.result _ _
    (λ x h. h (additions_view c.args.additions) (source_as c.args.syntax c.args.text.now)
    c.in_ok-events.ensures.new) c.plain_headings.ensures.headings)

pub returns-in-None-clause-refused : goal.returns-in-None-clause-refused
returns-in-None-clause-refused c =
    IfErr-weaker c.plain_headings.result _ _
    (λ x h. h (additions_view c.args.additions) (source_as c.args.syntax c.args.text.now)
    c.in_ok-events.ensures.new) c.plain_headings.ensures.refused
