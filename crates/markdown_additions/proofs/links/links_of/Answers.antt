-- The links are those of the events of the text.
use Rattle.std.proofs.Common.{⊎_elim}
use Rattle.std.proofs.lemmas.Result.{IfErr-weaker, IfOk-weaker}
use Rattle.markdown_additions.proofs.GivenEventsLemmas.{gives_new_added}
use Rattle.markdown_additions.proofs.WrittenLemmas.{headings_stopped, links_read}
use Rattle.markdown_additions.proofs.links.links_of.Goals as goal

pub returns-clause-links : goal.returns-clause-links
returns-clause-links c =
    IfOk-weaker c.links.result _ _
    (λ list read a s new. links_read _ _ _ _ (gives_new_added a s c.args.events new) _ read) c.links.ensures.links

pub returns-clause-refused : goal.returns-clause-refused
returns-clause-refused c =
    IfErr-weaker c.links.result _ _
    (λ fault why a s new. ⊎_elim
    (λ m. headings_stopped _ _ _ _ (gives_new_added a s c.args.events new) fault m) (λ n. n.0) why)
    c.links.ensures.fault
