use Rattle.std.proofs.Common.{◌≡◌, ◌++◌, get_or, ap, sym, ◌∙◌}
use Rattle.std.specs.String.{string_bytes}
use Rattle.std.proofs.lemmas.List.Folds.{flat_map-map}
use Rattle.std.proofs.lemmas.Result.{err_from_is_err_and}
use Rattle.markdown_base.specs.CowText.{text_of}
use Rattle.markdown_out.specs.TagHtml.{further_class}
use Rattle.markdown_out.proofs.ByteListsLemmas.{StandsTo-all, StandsTo-prefix}
use Rattle.markdown_out.proofs.html.heading.push_further_classes.Goals as goal

pub returns-in_err-push_pieces-clause-err : goal.returns-in_err-push_pieces-clause-err
returns-in_err-push_pieces-clause-err c =
    let p = err_from_is_err_and c.from_residual.result c.from_residual.ensures.1 in
    let e : c.as_str.result.now ≡ text_of (get_or c.args.classes.now c.loop-class.class-index
    c.class-item.result) = c.as_str.ensures ∙ ap text_of c.class-item.is in
    rw (p.1, flat_map-map further_class text_of c.args.classes.now) (StandsTo-prefix
    (λ class. further_class (text_of class)) _ _ _ _ _ c.class-item.result
    c.loop-class-test.true (rw e at c.in_err-push_pieces.ensures.err) c.loop-class.invariant)

pub returns-clause-ok : goal.returns-clause-ok
returns-clause-ok c =
    StandsTo-all (λ class. further_class (text_of class)) _ _ _ _ c.loop-class-test.false
    c.loop-class.invariant
    ∙ ap (λ x. string_bytes c.args.s.now
    ++ x) (sym (flat_map-map further_class text_of c.args.classes.now))
