-- The callback's count is that of the questions of the text.
use Rattle.std.proofs.Common.{◌≡◌, ◌∙◌, Some, None, refl, subst, sym}
use Rattle.markdown.specs.OptionWords.{Options, profile_syntax, source_as}
use Rattle.markdown.specs.ReadingWords.{ReadsText}
use Rattle.markdown_callers.specs.LinkChecker.{CountsQuestions}
use Rattle.markdown_callers.specs.declared.link_checker.UndefinedLabels.{UndefinedLabels}
use Rattle.markdown_callers.proofs.LinkCheckerLemmas.{counts_questions}
use Rattle.markdown_callers.proofs.link_checker.count_undefined.Goals as goal

pub returns-in-Some-clause-count : goal.returns-in-Some-clause-count
returns-in-Some-clause-count c =
    let all = counts_questions c.args.source.now c.in_ok-parser.parser c.into_offset_iter.result
    c.in_ok-events.events.items
    (record { count = 0 }) c.in_ok-events.callback
    (subst (λ (o : Options). ReadsText (source_as (profile_syntax o) c.args.source.now) c.in_ok-parser.parser)
    c.empty.ensures
    c.in_ok-parser.ensures.left)
    c.in_ok-parser.ensures.callback refl c.into_offset_iter.ensures c.in_ok-events.ensures.all in
    let is : Some all.0 ≡ Some c.in-Some.undefined = sym all.1 ∙ c.in-Some.is in
    let same : all.0 ≡ c.in-Some.undefined = cc in
    subst (λ (u : UndefinedLabels). CountsQuestions c.args.source.now u.count) same all.2

pub returns-in-None-clause-count : goal.returns-in-None-clause-count
returns-in-None-clause-count c =
    let all = counts_questions c.args.source.now c.in_ok-parser.parser c.into_offset_iter.result
    c.in_ok-events.events.items
    (record { count = 0 }) c.in_ok-events.callback
    (subst (λ (o : Options). ReadsText (source_as (profile_syntax o) c.args.source.now) c.in_ok-parser.parser)
    c.empty.ensures
    c.in_ok-parser.ensures.left)
    c.in_ok-parser.ensures.callback refl c.into_offset_iter.ensures c.in_ok-events.ensures.all in
    let no : None ≡ Some all.0 = sym c.in-None.is ∙ all.1 in
    cc
