-- The name of the key is looked for, and then what follows it.
use Rattle.std.proofs.Common.{◌∙◌, ap, refl, sym, chars}
use Rattle.markdown_page.specs.MetadataTitle.{text_after}
use Rattle.markdown_page.proofs.LineLemmas.{title_chars, title_colon_chars}
use Rattle.markdown_page.proofs.title.title_text.Goals as goal

pub returns-in-Some : goal.returns-in-Some
returns-in-Some c =
    let found = ap (λ l. text_after l (chars c.args.line.now)) (sym title_colon_chars) ∙ sym c.in-Some.ensures in
    rw (c.in-YamlStyle.is, found) c.text_past_gap.ensures

pub returns-in-None : goal.returns-in-None
returns-in-None c =
    let found = ap (λ l. text_after l (chars c.args.line.now)) (sym title_colon_chars) ∙ sym c.in-None.ensures in
    rw (c.in-YamlStyle.is, found) refl

pub returns-in-Some-text_after : goal.returns-in-Some-text_after
returns-in-Some-text_after c =
    let found = ap (λ l. text_after l (chars c.args.line.now)) (sym title_chars) ∙ sym c.in-Some-text_after.ensures in
    rw (c.in-PlusesStyle.is, found) c.text_past_equals.ensures

pub returns-in-None-text_after : goal.returns-in-None-text_after
returns-in-None-text_after c =
    let found = ap (λ l. text_after l (chars c.args.line.now)) (sym title_chars) ∙ sym c.in-None-text_after.ensures in
    rw (c.in-PlusesStyle.is, found) refl
