-- What the callback was asked are the questions of the text, where nothing is answered.
use Rattle.std.proofs.Common.{◌∙◌, Global, Vec, ap, map}
use Rattle.std.proofs.lemmas.Result.{IfOk-weaker}
use Rattle.markdown_base.specs.Source.{source_as}
use Rattle.markdown_defs.specs.CallbackViews.{question_of}
use Rattle.markdown_defs.specs.declared.callback.BrokenLink.{BrokenLink}
use Rattle.markdown_lint_json.proofs.BrokenLemmas.{asked_some, broken_asked}
use Rattle.markdown_lint_json.proofs.broken.broken_source.Goals as goal

pub returns-in-Some-clause-links : goal.returns-in-Some-clause-links
returns-in-Some-clause-links c =
    let kept = broken_asked (source_as c.args.syntax c.args.text.now) _ c.nothing.result c.in_ok-events.events.items _
    (rw c.into_offset_iter.ensures c.in_ok-parser.ensures.left)
    (rw c.into_offset_iter.ensures c.in_ok-parser.ensures.callback) c.in_ok-events.ensures.all c.nothing.ensures.links
    c.in-Some.asked c.in-Some.is in
    IfOk-weaker c.links.result _ _
    (λ links h. ap (λ (v : Vec BrokenLink Global). map question_of v.items) h.1 ∙ kept h.0) c.links.ensures.links

pub returns-in-None-clause-links : goal.returns-in-None-clause-links
returns-in-None-clause-links c =
    absurd (asked_some (source_as c.args.syntax c.args.text.now) _ c.nothing.result c.in_ok-events.events.items _
    (rw c.into_offset_iter.ensures c.in_ok-parser.ensures.left)
    (rw c.into_offset_iter.ensures c.in_ok-parser.ensures.callback) c.in_ok-events.ensures.all c.in-None.is)
