-- The members, and the end of the line after them.
use Rattle.std.proofs.lemmas.Result.{err_from_is_err_and, on_err_weaker, on_ok_weaker}
use Rattle.markdown_json.proofs.JsonPartsLemmas.{prefix-earlier, prefix-later}
use Rattle.markdown_out.proofs.ByteListsLemmas.{append-more}
use Rattle.markdown_lint_json.proofs.broken.push_line.Goals as goal

pub returns-in_err-push_members-clause-err : goal.returns-in_err-push_members-clause-err
returns-in_err-push_members-clause-err c =
    let p = err_from_is_err_and c.from_residual.result c.from_residual.ensures.1 in
    rw p.1 (prefix-earlier _ _ _ _ c.in_err-push_members.ensures.err)

pub returns-clause-ok : goal.returns-clause-ok
returns-clause-ok c =
    on_ok_weaker c.push_object_end.result (λ done. append-more _ _ _ _ _ c.in_ok-push_members.ensures.ok done)
    c.push_object_end.ensures.ok

pub returns-clause-err : goal.returns-clause-err
returns-clause-err c =
    on_err_weaker c.push_object_end.result (λ f. prefix-later _ _ _ _ _ c.in_ok-push_members.ensures.ok f)
    c.push_object_end.ensures.err
