-- A heading is opened with the attributes between the braces.
use Rattle.std.proofs.Common.{sym, subst, MatchOption}
use Rattle.std.proofs.lemmas.Result.{IfOk-weaker}
use Rattle.markdown_base.specs.declared.item.ItemBody.TheVariants as body
use Rattle.markdown_builder.specs.BuilderView.{Opens}
use Rattle.markdown_plain.specs.Fitting.{OpensHeadingOf}
use Rattle.markdown_plain.proofs.paragraph.open_text.Goals as goal

pub returns-in-Some-clause-leaf : goal.returns-in-Some-clause-leaf
returns-in-Some-clause-leaf c =
    IfOk-weaker c.open_heading.result _ _ (λ done opens stand. subst (λ heading. MatchOption heading
    (Opens c.args.placing.now.builder c.open_heading.new.placing.builder body.Paragraph)
    (λ h. OpensHeadingOf c.args.placing.now.builder c.open_heading.new.placing.builder h.0 c.args.braces))
    (sym c.in-Some.is) (opens stand)) c.open_heading.ensures.heading
