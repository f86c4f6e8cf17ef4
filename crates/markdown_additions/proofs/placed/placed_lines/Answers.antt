-- What is written are the lines of the events of the text with their places.
use Rattle.std.proofs.Common.{⊎_elim}
use Rattle.std.proofs.lemmas.Result.{err_from_is_err_and}
use Rattle.markdown_additions.proofs.GivenEventsLemmas.{gives_new_added}
use Rattle.markdown_additions.proofs.WrittenLemmas.{placed_stopped, placed_written}
use Rattle.markdown_additions.proofs.placed.placed_lines.Goals as goal

pub returns-clause-lines : goal.returns-clause-lines
returns-clause-lines c a s new =
    placed_written _ _ _ _ (gives_new_added a s c.args.events new) _ _ _ c.new-lines.ensures.bytes
    c.in_ok-push_json_with_places.ensures.ok

pub returns-in_err-push_json_with_places-clause-refused : goal.returns-in_err-push_json_with_places-clause-refused
returns-in_err-push_json_with_places-clause-refused c =
    let p = err_from_is_err_and c.from_residual.result c.from_residual.ensures.1 in
    rw (p.1, p.2) (λ a s new. ⊎_elim
    (λ stop. placed_stopped _ _ _ _ (gives_new_added a s c.args.events new) _ _ _ _ stop) (λ own. own.0)
    c.in_err-push_json_with_places.ensures.err)
