-- Both parts of the reference were appended, or a prefix of the one at which memory was refused.
use Rattle.std.proofs.Common.{◌≡◌, OnOk, subst, ap}
use Rattle.std.specs.Option.{option_map}
use Rattle.std.proofs.lemmas.Result.{err_from_is_err_and, on_err_weaker}
use Rattle.markdown_base.specs.CowText.{text_of}
use Rattle.markdown_out.specs.LookBacks.{Past, footnote_number}
use Rattle.markdown_out.specs.Writer.{view, image_view}
use Rattle.markdown_out.proofs.FootnotePartsLemmas.{reference_first, reference_last, after_reference}
use Rattle.markdown_out.proofs.html.Writer.footnote_reference.Goals as goal

pub returns-in_err-push_reference-clause-err : goal.returns-in_err-push_reference-clause-err
returns-in_err-push_reference-clause-err c =
    let f = rw c.as_str.ensures at c.in_err-push_reference.ensures.err in
    let p = err_from_is_err_and c.from_residual.result c.from_residual.ensures.1 in
    rw p.1 (reference_first _ _ (text_of c.args.name) (footnote_number (view c.args.self.now) (text_of c.args.name)) f)

pub returns-clause-told : goal.returns-clause-told
returns-clause-told c =
    subst (λ (p : Past). OnOk c.put_number.result (view c.put_number.new.self ≡ p))
    (after_reference (view c.args.self.now) (text_of c.args.name) (ap (option_map image_view) c.requires))
    c.put_number.ensures.told

pub returns-clause-err : goal.returns-clause-err
returns-clause-err c =
    let e = rw c.as_str.ensures at c.in_ok-push_reference.ensures.ok in
    on_err_weaker c.put_number.result
    (reference_last _ _ _ (text_of c.args.name) (footnote_number (view c.args.self.now) (text_of c.args.name)) e)
    c.put_number.ensures.err
