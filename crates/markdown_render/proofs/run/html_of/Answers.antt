-- The rendering without a callback.
use Rattle.std.proofs.Common.{refl}
use Rattle.std.proofs.lemmas.Result.{err_from_is_err_and}
use Rattle.markdown_render.proofs.RenderingLemmas.{failed}
use Rattle.markdown_render.proofs.run.html_of.Goals as goal

pub returns-clause-html : goal.returns-clause-html
returns-clause-html c = (c.in_ok-render.ensures.alone refl).output

pub returns-in_err-render-clause-failed : goal.returns-in_err-render-clause-failed
returns-in_err-render-clause-failed c =
    let p = err_from_is_err_and c.from_residual.result c.from_residual.ensures.1 in
    rw (p.1, p.2) (failed _ _ (c.in_err-render.ensures.alone refl).faults)
