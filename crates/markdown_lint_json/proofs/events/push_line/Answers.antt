-- The line without the place, and the place after it.
use Rattle.std.proofs.lemmas.Result.{err_from_is_err_and, on_err_weaker, on_ok_weaker}
use Rattle.markdown_json.proofs.JsonPartsLemmas.{prefix-earlier, prefix-later}
use Rattle.markdown_out.proofs.ByteListsLemmas.{append-more}
use Rattle.markdown_lint_json.proofs.events.push_line.Goals as goal

pub returns-in_err-push_line_start-clause-err : goal.returns-in_err-push_line_start-clause-err
returns-in_err-push_line_start-clause-err c =
    let p = err_from_is_err_and c.from_residual.result c.from_residual.ensures.1 in
    rw p.1 (prefix-earlier _ _ _ _ c.in_err-push_line_start.ensures.err)

pub returns-clause-ok : goal.returns-clause-ok
returns-clause-ok c =
    on_ok_weaker c.push_place.result (λ done. append-more _ _ _ _ _ c.in_ok-push_line_start.ensures.ok done)
    (rw c.of_range.ensures at c.push_place.ensures.ok)

pub returns-clause-err : goal.returns-clause-err
returns-clause-err c =
    on_err_weaker c.push_place.result (λ f. prefix-later _ _ _ _ _ c.in_ok-push_line_start.ensures.ok f)
    (rw c.of_range.ensures at c.push_place.ensures.err)
