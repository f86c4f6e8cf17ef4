-- The first character decides.
use Rattle.std.proofs.Common.{◌≡◌, ◌∙◌, ◌∷◌, ap, sym, chars, rules}
use Rattle.std.specs.Str.Iter.{chars_rest}
use Rattle.std.proofs.lemmas.Str.{chars_past_char}
use Rattle.markdown_page.proofs.value.value_of_text.Goals as goal

pub returns-in-Some-eq34-clause-read : goal.returns-in-Some-eq34-clause-read
returns-in-Some-eq34-clause-read c =
    let rest = chars_past_char _ _ _ c.utf8.text (sym c.chars-rest.ensures.rest ∙ c.in-Some-eq34.ensures.steps.0) in
    let same : c.in-Some-eq34.field-0 ≡ 34 = search (rules, c.in-Some-eq34.field-0-test) in
    let parts = rest ∙ ap (λ l. l ∷ chars (chars_rest c.next.new.self)) same
    ∙ ap (λ l. 34 ∷ chars l) (sym c.as_str.ensures) in
    rw parts c.double_quoted_value.ensures.read

pub returns-in-Some-eq39-clause-read : goal.returns-in-Some-eq39-clause-read
returns-in-Some-eq39-clause-read c =
    let rest = chars_past_char _ _ _ c.utf8.text (sym c.chars-rest.ensures.rest ∙ c.in-Some-eq39.ensures.steps.0) in
    let same : c.in-Some-eq39.field-0 ≡ 39 = search (rules, c.in-Some-eq39.field-0-test) in
    let parts = rest ∙ ap (λ l. l ∷ chars (chars_rest c.next.new.self)) same
    ∙ ap (λ l. 39 ∷ chars l) (sym c.as_str-in-Some-eq39.ensures) in
    rw parts c.single_quoted_value.ensures.read
