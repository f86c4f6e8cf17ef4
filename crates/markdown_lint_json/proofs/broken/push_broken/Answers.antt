-- Each reference adds its line.
use Rattle.std.proofs.Common.{◌≡◌, ◌++◌, ap, get_or, ◌∙◌}
use Rattle.std.specs.String.{string_bytes}
use Rattle.std.proofs.lemmas.Result.{err_from_is_err_and}
use Rattle.markdown_out.specs.ByteLists.{AppendsPrefix}
use Rattle.markdown_out.proofs.ByteListsLemmas.{StandsTo-none, StandsTo-more, StandsTo-all, StandsTo-prefix}
use Rattle.markdown_lint_json.proofs.BrokenLemmas.{line_of_broken, lines_of_broken}
use Rattle.markdown_lint_json.proofs.broken.push_broken.Goals as goal

pub loop-link-init : goal.loop-link-init
loop-link-init c = StandsTo-none _ _ _

pub returns-in_err-push_line-clause-err : goal.returns-in_err-push_line-clause-err
returns-in_err-push_line-clause-err c =
    let line = line_of_broken c.args.text.now in
    let p = err_from_is_err_and c.from_residual.result c.from_residual.ensures.1 in
    let f : AppendsPrefix (string_bytes c.loop-link.s) (string_bytes c.push_line.new.s)
    (line (get_or c.args.links.now c.loop-link.link-index c.link-item.result)) =
    rw (← c.link-item.is) c.in_err-push_line.ensures.err in
    rw (p.1, ← lines_of_broken c.args.text.now c.args.links.now)
    (StandsTo-prefix line _ _ _ _ _ c.link-item.result c.loop-link-test.true f c.loop-link.invariant)

pub loop-link-preserved : goal.loop-link-preserved
loop-link-preserved c =
    let line = line_of_broken c.args.text.now in
    let e : string_bytes c.push_line.new.s ≡ string_bytes c.loop-link.s
    ++ line (get_or c.args.links.now c.loop-link.link-index c.link-item.result) =
    rw (← c.link-item.is) c.in_ok-push_line.ensures.ok in
    StandsTo-more line _ _ _ _ _ c.link-item.result c.loop-link-test.true e c.loop-link.invariant

pub returns-clause-ok : goal.returns-clause-ok
returns-clause-ok c =
    StandsTo-all (line_of_broken c.args.text.now) _ _ _ _ c.loop-link-test.false c.loop-link.invariant
    ∙ ap (λ x. string_bytes c.args.s.now ++ x) (lines_of_broken c.args.text.now c.args.links.now)
