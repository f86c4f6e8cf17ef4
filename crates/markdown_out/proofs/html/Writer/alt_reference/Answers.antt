-- What the writer keeps after the number is what it keeps after the whole reference.
use Rattle.std.proofs.Common.{◌≡◌, OnOk, subst}
use Rattle.markdown_base.specs.CowText.{text_of}
use Rattle.markdown_out.specs.LookBacks.{Past}
use Rattle.markdown_out.specs.Writer.{view}
use Rattle.markdown_out.proofs.FootnotePartsLemmas.{after_alt}
use Rattle.markdown_out.proofs.html.Writer.alt_reference.Goals as goal

pub returns-clause-told : goal.returns-clause-told
returns-clause-told c =
    subst (λ (p : Past). OnOk c.put_number.result (view c.put_number.new.self ≡ p))
    (after_alt (view c.args.self.now) (text_of c.args.name)) c.put_number.ensures.told
