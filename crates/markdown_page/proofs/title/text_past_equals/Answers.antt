-- The equals sign is looked for past the white space.
use Rattle.std.proofs.Common.{◌∙◌, ap, refl, sym, chars, codes, Some}
use Rattle.markdown_page.specs.MetadataTitle.{past_gap, text_after}
use Rattle.markdown_page.proofs.LineLemmas.{equals_chars}
use Rattle.markdown_page.proofs.title.text_past_equals.Goals as goal

pub returns-in-Some : goal.returns-in-Some
returns-in-Some c =
    let found =
    ap (λ l. text_after l (past_gap (chars c.args.text.now))) (sym equals_chars)
    ∙ ap (text_after (chars (codes "="))) (sym c.past_gap.ensures)
    ∙ sym c.in-Some.ensures in
    rw found (ap Some c.past_gap-in-Some.ensures)

pub returns-in-None : goal.returns-in-None
returns-in-None c =
    let found =
    ap (λ l. text_after l (past_gap (chars c.args.text.now))) (sym equals_chars)
    ∙ ap (text_after (chars (codes "="))) (sym c.past_gap.ensures)
    ∙ sym c.in-None.ensures in
    rw found refl
