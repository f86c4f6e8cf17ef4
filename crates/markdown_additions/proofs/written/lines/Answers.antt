-- What is written are the lines of the events of the text.
use Rattle.std.proofs.Common.{⊎_elim, inl}
use Rattle.std.proofs.lemmas.Result.{err_from_is_err_and}
use Rattle.markdown_additions.proofs.GivenEventsLemmas.{gives_new_added}
use Rattle.markdown_additions.proofs.WrittenLemmas.{lines_stopped, lines_written}
use Rattle.markdown_additions.proofs.written.lines.Goals as goal

pub returns-clause-written : goal.returns-clause-written
returns-clause-written c a s new =
    lines_written _ _ _ _ (gives_new_added a s c.args.events new) _ _ c.new-written.ensures.bytes
    c.in_ok-push_json.ensures.ok

pub returns-in_err-push_json-clause-faults : goal.returns-in_err-push_json-clause-faults
returns-in_err-push_json-clause-faults c =
    let p = err_from_is_err_and c.from_residual.result c.from_residual.ensures.1 in
    rw (p.1, p.2) (λ a s new. inl (⊎_elim
    (λ stop. lines_stopped _ _ _ _ (gives_new_added a s c.args.events new) _ _ _ stop)
    (λ own. own.0) c.in_err-push_json.ensures.err))
