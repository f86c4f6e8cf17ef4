-- Each question is written after those before it.
use Rattle.std.proofs.lemmas.List.Folds.{flat_map-map}
use Rattle.markdown_defs.specs.CallbackViews.{question_of}
use Rattle.markdown_records.specs.Drafts.{question_drafts}
use Rattle.markdown_text_records.proofs.EntriesLemmas.{entries_all, entries_cut, entries_more}
use Rattle.markdown_text_records.proofs.questions.push_all.Goals as goal

pub loop-link-preserved : goal.loop-link-preserved
loop-link-preserved c =
    entries_more c.link-item.result c.loop-link-test.true c.loop-link.invariant
    (rw (← c.link-item.is) (rw (c.as_str.ensures) at c.in_ok-push_question.ensures))

pub returns-in_err-push_question : goal.returns-in_err-push_question
returns-in_err-push_question c =
    rw (flat_map-map question_drafts question_of c.args.questions.now)
    (entries_cut c.link-item.result c.loop-link-test.true c.loop-link.invariant c.from_residual.ensures.1
    (rw (← c.link-item.is) (rw (c.as_str.ensures) at c.in_err-push_question.ensures)))

pub returns : goal.returns
returns c =
    rw (flat_map-map question_drafts question_of c.args.questions.now)
    (entries_all c.loop-link-test.false c.loop-link.invariant)
