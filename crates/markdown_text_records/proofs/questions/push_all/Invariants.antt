-- The first questions are written.
use Rattle.markdown_defs.specs.CallbackViews.{question_of}
use Rattle.markdown_records.specs.Drafts.{question_drafts}
use Rattle.markdown_text_records.proofs.EntriesLemmas.{EntriesTo}
use Rattle.markdown_text_records.proofs.questions.push_all.Given as goal

abbrev pub invariant-loop-link : goal.invariant-loop-link
invariant-loop-link l = EntriesTo (λ q. question_drafts
    (question_of q)) l.initial.records l.questions l.link-index l.records
