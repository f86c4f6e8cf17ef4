-- Both parts of the definition's Start were appended, or a prefix of the one at which memory was refused.
use Rattle.std.proofs.Common.{◌≡◌, OnOk, subst, ap}
use Rattle.std.specs.Option.{option_map}
use Rattle.std.proofs.lemmas.Result.{err_from_is_err_and, on_err_weaker, on_ok_weaker}
use Rattle.markdown_base.specs.CowText.{text_of}
use Rattle.markdown_out.specs.LookBacks.{Past, footnote_number}
use Rattle.markdown_out.specs.Writer.{view, image_view}
use Rattle.markdown_out.proofs.FootnotePartsLemmas.{definition_stands, definition_first, definition_last}
use Rattle.markdown_out.proofs.FootnotePartsLemmas.{after_definition}
use Rattle.markdown_out.proofs.html.Writer.footnote_definition.Goals as goal

pub returns-in_err-push_definition-clause-err : goal.returns-in_err-push_definition-clause-err
returns-in_err-push_definition-clause-err c =
    let f = rw c.as_str.ensures at c.in_err-push_definition.ensures.err in
    let p = err_from_is_err_and c.from_residual.result c.from_residual.ensures.1 in
    rw p.1 (definition_first _ _ c.args.self.now.fresh (text_of c.args.name)
    (footnote_number (view c.args.self.now) (text_of c.args.name))
    f)

pub returns-clause-ok : goal.returns-clause-ok
returns-clause-ok c =
    let e = rw c.as_str.ensures at c.in_ok-push_definition.ensures.ok in
    on_ok_weaker c.put_number.result
    (definition_stands _ _ _ c.args.self.now.fresh (text_of c.args.name)
    (footnote_number (view c.args.self.now) (text_of c.args.name))
    e) c.put_number.ensures.ok

pub returns-clause-told : goal.returns-clause-told
returns-clause-told c =
    subst (λ (p : Past). OnOk c.put_number.result (view c.put_number.new.self ≡ p))
    (after_definition (view c.args.self.now) (text_of c.args.name) (ap (option_map image_view) c.requires))
    c.put_number.ensures.told

pub returns-clause-err : goal.returns-clause-err
returns-clause-err c =
    let e = rw c.as_str.ensures at c.in_ok-push_definition.ensures.ok in
    on_err_weaker c.put_number.result
    (definition_last _ _ _ c.args.self.now.fresh (text_of c.args.name)
    (footnote_number (view c.args.self.now) (text_of c.args.name))
    e) c.put_number.ensures.err
