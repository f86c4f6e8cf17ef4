use Rattle.std.proofs.Common.{◌++◌, get_or, ap, sym, ◌∙◌}
use Rattle.std.specs.String.{string_bytes}
use Rattle.std.proofs.lemmas.List.Folds.{flat_map-map}
use Rattle.std.proofs.lemmas.Result.{err_from_is_err_and}
use Rattle.markdown_base.specs.Event.{attribute_view}
use Rattle.markdown_out.specs.ByteLists.{AppendsPrefix}
use Rattle.markdown_out.specs.TagHtml.{other_attribute}
use Rattle.markdown_out.proofs.ByteListsLemmas.{StandsTo-all, StandsTo-prefix}
use Rattle.markdown_out.proofs.html.heading.push_attributes.Goals as goal

pub returns-in_err-push_attribute-clause-err : goal.returns-in_err-push_attribute-clause-err
returns-in_err-push_attribute-clause-err c =
    let p = err_from_is_err_and c.from_residual.result c.from_residual.ensures.1 in
    let f : AppendsPrefix (string_bytes c.loop-attribute.s) (string_bytes c.push_attribute.new.s)
    (other_attribute (attribute_view
    (get_or c.args.attributes.now c.loop-attribute.attribute-index c.attribute-item.result))) =
    rw (← c.attribute-item.is) c.in_err-push_attribute.ensures.err in
    rw (p.1, flat_map-map other_attribute attribute_view c.args.attributes.now) (StandsTo-prefix
    (λ a. other_attribute (attribute_view a)) _ _ _ _ _ c.attribute-item.result
    c.loop-attribute-test.true f c.loop-attribute.invariant)

pub returns-clause-ok : goal.returns-clause-ok
returns-clause-ok c =
    StandsTo-all (λ a. other_attribute (attribute_view a)) _ _ _ _ c.loop-attribute-test.false
    c.loop-attribute.invariant
    ∙ ap (λ x. string_bytes c.args.s.now
    ++ x) (sym (flat_map-map other_attribute attribute_view c.args.attributes.now))
