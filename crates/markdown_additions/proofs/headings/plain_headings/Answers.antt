-- The headings are those of the events of the text.
use Rattle.std.proofs.Common.{⊎_elim}
use Rattle.std.proofs.lemmas.Result.{IfErr-weaker, IfOk-weaker}
use Rattle.markdown_additions.proofs.GivenEventsLemmas.{gives_new_added}
use Rattle.markdown_additions.proofs.WrittenLemmas.{headings_read, headings_stopped}
use Rattle.markdown_additions.proofs.headings.plain_headings.Goals as goal

pub returns-clause-headings : goal.returns-clause-headings
returns-clause-headings c =
    IfOk-weaker c.outline.result _ _
    (λ entries read a s new. headings_read _ _ _ _ (gives_new_added a s c.args.events new) _ read)
    c.outline.ensures.entries

pub returns-clause-refused : goal.returns-clause-refused
returns-clause-refused c =
    IfErr-weaker c.outline.result _ _
    (λ fault why a s new. ⊎_elim
    (λ m. headings_stopped _ _ _ _ (gives_new_added a s c.args.events new) fault m) (λ n. n.0) why)
    c.outline.ensures.fault
