-- What is written through the reference is found by the folding, and therefore by each name that matches.
use Rattle.std.proofs.Common.{◌≡◌, ◌∙◌, ap, cond, refl, Some}
use Rattle.markdown_base.specs.CowText.{text_of}
use Rattle.markdown_defs.specs.Folding.{case_folding, folded_text}
use Rattle.markdown_defs.specs.Footnotes.{footnote_at}
use Rattle.markdown_defs.proofs.FoldingLemmas.{encoded_eq}
use Rattle.markdown_defs.proofs.footnotes.FootnoteDefs.find_mut.Goals as goal

pub returns-in-Some : goal.returns-in-Some
returns-in-Some c =
    let text : c.as_str-2.result.now ≡ folded_text (text_of c.args.key) = c.as_str-2.ensures.value
    ∙ c.in_ok-folded.ensures.folded
    ∙ ap folded_text c.as_str.ensures in (
      (
        refl,
        λ last _ name.
            (rw text at ((rw c.in-Some.is at (c.lend.follows.holds last)) (folded_text name)))
            ∙ ap (λ b. cond b (Some last) (footnote_at c.args.self.now name))
            (encoded_eq (case_folding (text_of c.args.key))
            (case_folding name)),
        tt,
      ),
      record { writes_back = tt; found = rw text at c.in-Some.ensures.found; undefined = tt },
    )
