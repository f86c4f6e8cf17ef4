use Rattle.std.proofs.Common.{◌≡◌, map}
use Rattle.std.proofs.lemmas.Result.{err_from_is_err_and, on_err_weaker}
use Rattle.markdown_base.specs.CowText.{text_of}
use Rattle.markdown_out.proofs.EventHtmlLemmas.{classes_prefix-first, classes_prefix-others}
use Rattle.markdown_out.proofs.EventHtmlLemmas.{classes_prefix-end}
use Rattle.markdown_out.proofs.html.heading.push_classes.Goals as goal

pub returns-in_err-push_pieces-clause-err : goal.returns-in_err-push_pieces-clause-err
returns-in_err-push_pieces-clause-err c =
    let p = err_from_is_err_and c.from_residual.result c.from_residual.ensures.1 in
    let t : c.as_str.result.now ≡ text_of c.in-Some.first.now = c.as_str.ensures in
    let f = rw t at c.in_err-push_pieces.ensures.err in
    rw (p.1, c.in-Some.ensures.cases.0) (classes_prefix-first _ _ (text_of c.in-Some.first.now)
    (map text_of c.in-Some.others.now) f)

pub returns-in_err-push_further_classes-clause-err
    : goal.returns-in_err-push_further_classes-clause-err
returns-in_err-push_further_classes-clause-err c =
    let p = err_from_is_err_and c.from_residual-in_err-push_further_classes.result
    c.from_residual-in_err-push_further_classes.ensures.1 in
    let t : c.as_str.result.now ≡ text_of c.in-Some.first.now = c.as_str.ensures in
    let e = rw t at c.in_ok-push_pieces.ensures.ok in
    rw (p.1, c.in-Some.ensures.cases.0) (classes_prefix-others _ _ _ (text_of c.in-Some.first.now)
    (map text_of c.in-Some.others.now) e c.in_err-push_further_classes.ensures.err)

pub returns-clause-err : goal.returns-clause-err
returns-clause-err c =
    let t : c.as_str.result.now ≡ text_of c.in-Some.first.now = c.as_str.ensures in
    let e = rw t at c.in_ok-push_pieces.ensures.ok in
    rw (c.in-Some.ensures.cases.0) (on_err_weaker c.push_pieces-2.result (classes_prefix-end _ _ _ _
    (text_of c.in-Some.first.now) (map text_of c.in-Some.others.now) e
    c.in_ok-push_further_classes.ensures.ok) c.push_pieces-2.ensures.err)
