use Rattle.std.proofs.lemmas.Result.{err_from_is_err_and, on_err_weaker}
use Rattle.markdown_out.specs.Writer.{heading_view}
use Rattle.markdown_out.proofs.EventHtmlLemmas.{heading_ends, heading_prefix-level, heading_prefix-id}
use Rattle.markdown_out.proofs.EventHtmlLemmas.{heading_prefix-classes, heading_prefix-attributes}
use Rattle.markdown_out.proofs.EventHtmlLemmas.{heading_prefix-end}
use Rattle.markdown_out.proofs.html.heading.put_heading.Goals as goal

pub returns-in_err-push_pieces-clause-err : goal.returns-in_err-push_pieces-clause-err
returns-in_err-push_pieces-clause-err c =
    let p = err_from_is_err_and c.from_residual.result c.from_residual.ensures.1 in
    let h = heading_view c.args.level c.args.id.now c.args.classes.now c.args.attributes.now in
    let f = rw (c.line_break-first.ensures, c.digit.ensures) at c.in_err-push_pieces.ensures.err in
    rw p.1 (heading_prefix-level _ _ c.args.fresh.now h f)

pub returns-in_err-push_id-clause-err : goal.returns-in_err-push_id-clause-err
returns-in_err-push_id-clause-err c =
    let p = err_from_is_err_and c.from_residual-in_err-push_id.result
    c.from_residual-in_err-push_id.ensures.1 in
    let h = heading_view c.args.level c.args.id.now c.args.classes.now c.args.attributes.now in
    let e = rw (c.line_break-first.ensures, c.digit.ensures) at c.in_ok-push_pieces.ensures.ok in
    rw p.1 (heading_prefix-id _ _ _ c.args.fresh.now h e c.in_err-push_id.ensures.err)

pub returns-in_err-push_classes-clause-err : goal.returns-in_err-push_classes-clause-err
returns-in_err-push_classes-clause-err c =
    let p = err_from_is_err_and c.from_residual-in_err-push_classes.result
    c.from_residual-in_err-push_classes.ensures.1 in
    let h = heading_view c.args.level c.args.id.now c.args.classes.now c.args.attributes.now in
    let e = rw (c.line_break-first.ensures, c.digit.ensures) at c.in_ok-push_pieces.ensures.ok in
    rw p.1 (heading_prefix-classes _ _ _ _ c.args.fresh.now h e c.in_ok-push_id.ensures.ok
    c.in_err-push_classes.ensures.err)

pub returns-in_err-push_attributes-clause-err : goal.returns-in_err-push_attributes-clause-err
returns-in_err-push_attributes-clause-err c =
    let p = err_from_is_err_and c.from_residual-in_err-push_attributes.result
    c.from_residual-in_err-push_attributes.ensures.1 in
    let h = heading_view c.args.level c.args.id.now c.args.classes.now c.args.attributes.now in
    let e = rw (c.line_break-first.ensures, c.digit.ensures) at c.in_ok-push_pieces.ensures.ok in
    rw p.1 (heading_prefix-attributes _ _ _ _ _ c.args.fresh.now h e c.in_ok-push_id.ensures.ok
    c.in_ok-push_classes.ensures.ok c.in_err-push_attributes.ensures.err)

pub returns-clause-fresh : goal.returns-clause-fresh
returns-clause-fresh c = rw (heading_ends _ _ _) c.put.ensures.fresh

pub returns-clause-err : goal.returns-clause-err
returns-clause-err c =
    let h = heading_view c.args.level c.args.id.now c.args.classes.now c.args.attributes.now in
    let e = rw (c.line_break-first.ensures, c.digit.ensures) at c.in_ok-push_pieces.ensures.ok in
    on_err_weaker c.put.result (heading_prefix-end _ _ _ _ _ _ c.args.fresh.now h e
    c.in_ok-push_id.ensures.ok c.in_ok-push_classes.ensures.ok
    c.in_ok-push_attributes.ensures.ok) c.put.ensures.err
