-- The first character decides, with what follows it.
use Rattle.std.proofs.Common.{◌≡◌, ◌∙◌, false, true, not, ap, sym, chars, rules}
use Rattle.markdown_page.specs.MetadataTitle.{is_gap_or_nothing, marks_alone}
use Rattle.markdown_page.proofs.ValueLemmas.{begins-mark, begins-other}
use Rattle.markdown_page.proofs.value.begins_plain_value.Goals as goal

pub returns-then-marks_alone : goal.returns-then-marks_alone
returns-then-marks_alone c =
    let mark : marks_alone c.in-Some.first ≡ true = search (rules, c.marks_alone.ensures, c.if-marks_alone.true) in
    ap not (c.is_gap_or_nothing.ensures ∙ ap (λ l. is_gap_or_nothing (chars l)) c.as_str.ensures)
    ∙ sym (begins-mark _ _ _ c.utf8.text (sym c.chars-rest.ensures.rest ∙ c.in-Some.ensures.steps.0) mark)

pub returns : goal.returns
returns c =
    let other : marks_alone c.in-Some.first ≡ false = search (rules, c.marks_alone.ensures, c.if-marks_alone.false) in
    ap not c.is_yaml_indicator.ensures
    ∙ sym (begins-other _ _ _ c.utf8.text (sym c.chars-rest.ensures.rest ∙ c.in-Some.ensures.steps.0) other)
