-- A title is between its marks.
use Rattle.std.proofs.Common.{◌≡◌, ◌∙◌, ap, arith, false}
use Rattle.std.proofs.lemmas.Result.{IfOk-weaker}
use Rattle.markdown_base.specs.CowText.{text_of}
use Rattle.markdown_scan.specs.Unescape.{unescaped}
use Rattle.markdown_lines.specs.HeldTitles.{IsTitle, title_between}
use Rattle.markdown_lines.proofs.HeldBetweenLemmas.{between_here, inside_title, next_fits}
use Rattle.markdown_lines.proofs.definition.title_text.Goals as goal

pub returns-then-from-to : goal.returns-then-from-to
returns-then-from-to c =
    let text = c.args.text.now in
    let lines = c.args.lines.now in
    let title = c.args.title in
    IfOk-weaker c.unescape.result (λ made. text_of made ≡ unescaped c.args.names false c.part_of.result.now)
    (λ made. IsTitle text lines title.opening title.end
    → text_of made ≡ unescaped c.args.names false (title_between text lines title.opening title.end))
    (λ made is. λ (there : IsTitle text lines title.opening title.end).
    let inside = inside_title text lines title.opening title.end c.saturating_add.result c.saturating_sub.result
    (omega (arith, c.saturating_add.ensures, next_fits text lines title.opening title.end there))
    (omega (arith, c.saturating_sub.ensures)) there in
    is ∙ ap (unescaped c.args.names false)
    (between_here text lines _ _ c.part_of.result.now c.part_of.ensures c.if-from-to.true inside.between
    ∙ inside.same)) c.unescape.ensures.value

pub returns : goal.returns
returns c =
    let text = c.args.text.now in
    let lines = c.args.lines.now in
    let title = c.args.title in
    IfOk-weaker c.into_static.result (λ made. text_of made ≡ text_of c.in_ok-unescape.field-0)
    (λ made. IsTitle text lines title.opening title.end
    → text_of made ≡ unescaped c.args.names false (title_between text lines title.opening title.end))
    (λ made is. λ (there : IsTitle text lines title.opening title.end).
    let inside = inside_title text lines title.opening title.end c.saturating_add.result c.saturating_sub.result
    (omega (arith, c.saturating_add.ensures, next_fits text lines title.opening title.end there))
    (omega (arith, c.saturating_sub.ensures)) there in
    is ∙ (c.in_ok-unescape.ensures.value
    ∙ ap (unescaped c.args.names false)
    (c.as_str.ensures.value ∙ (c.in_ok-joined.ensures inside.between ∙ inside.same)))) c.into_static.ensures.text
