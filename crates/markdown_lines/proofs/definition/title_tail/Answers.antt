-- White space, a title, and the end of its line.
use Rattle.std.proofs.Common.{◌≡◌, ◌∙◌, ◌==◌, true, sym, arith}
use Rattle.std.proofs.lemmas.Bool.Decides.{nat_tests}
use Rattle.markdown_lines.specs.DefinitionRules.{separation}
use Rattle.markdown_lines.specs.HeldPlaces.{IsPlace, rest_at}
use Rattle.markdown_lines.proofs.TitleTailLemmas.{apart, tail_goes_on, tail_none_left, tail_titled, tail_unseparated}
use Rattle.markdown_lines.proofs.TitleTailLemmas.{tail_untitled}
use Rattle.markdown_lines.proofs.definition.title_tail.Goals as goal

pub returns-in_err-title-clause-value : goal.returns-in_err-title-clause-value
returns-in_err-title-clause-value c =
    λ (place : IsPlace c.args.text.now c.args.lines.now c.args.after).
    rw c.from_residual.ensures
    (tail_none_left (rest_at c.args.text.now c.args.lines.now c.args.after) (c.in_err-title.ensures.value place))

pub returns-then-title-after-clause-value : goal.returns-then-title-after-clause-value
returns-then-title-after-clause-value c =
    λ (place : IsPlace c.args.text.now c.args.lines.now c.args.after).
    let same : (c.in_ok-title.title.at == c.args.after.at) ≡ true = grind (arith, nat_tests) in
    tail_unseparated (rest_at c.args.text.now c.args.lines.now c.args.after)
    (sym (c.in_ok-title.ensures.moved place) ∙ same)

pub returns-in_err-end-clause-value : goal.returns-in_err-end-clause-value
returns-in_err-end-clause-value c =
    λ (place : IsPlace c.args.text.now c.args.lines.now c.args.after).
    let past = c.in_ok-title.ensures.value place in
    rw c.from_residual-in_err-end.ensures
    (tail_untitled c.args.text.now c.args.lines.now c.args.after c.in_ok-title.title past
    (apart c.in_ok-title.title.at c.args.after.at (separation (rest_at c.args.text.now c.args.lines.now c.args.after))
    c.if-title-after.false (c.in_ok-title.ensures.moved place)) (c.in_err-end.ensures past.place))

pub returns-then-not-is_at_end-clause-value : goal.returns-then-not-is_at_end-clause-value
returns-then-not-is_at_end-clause-value c =
    λ (place : IsPlace c.args.text.now c.args.lines.now c.args.after).
    let past = c.in_ok-title.ensures.value place in
    let title = c.in_ok-end.ensures past.place in
    tail_goes_on c.args.text.now c.args.lines.now c.args.after c.in_ok-title.title c.in_ok-end.end past
    (apart c.in_ok-title.title.at c.args.after.at (separation (rest_at c.args.text.now c.args.lines.now c.args.after))
    c.if-title-after.false (c.in_ok-title.ensures.moved place)) title
    (sym c.if-not-is_at_end.true ∙ c.is_at_end.ensures title.ends.place)

pub returns-clause-value : goal.returns-clause-value
returns-clause-value c =
    λ (place : IsPlace c.args.text.now c.args.lines.now c.args.after).
    let past = c.in_ok-title.ensures.value place in
    let title = c.in_ok-end.ensures past.place in
    (tail_titled c.args.text.now c.args.lines.now c.args.after c.in_ok-title.title c.in_ok-end.end past
    (apart c.in_ok-title.title.at c.args.after.at (separation (rest_at c.args.text.now c.args.lines.now c.args.after))
    c.if-title-after.false (c.in_ok-title.ensures.moved place)) title
    (sym c.if-not-is_at_end.false ∙ c.is_at_end.ensures title.ends.place)).value

pub returns-clause-ends : goal.returns-clause-ends
returns-clause-ends c =
    λ (place : IsPlace c.args.text.now c.args.lines.now c.args.after).
    let past = c.in_ok-title.ensures.value place in
    let title = c.in_ok-end.ensures past.place in
    (tail_titled c.args.text.now c.args.lines.now c.args.after c.in_ok-title.title c.in_ok-end.end past
    (apart c.in_ok-title.title.at c.args.after.at (separation (rest_at c.args.text.now c.args.lines.now c.args.after))
    c.if-title-after.false (c.in_ok-title.ensures.moved place)) title
    (sym c.if-not-is_at_end.false ∙ c.is_at_end.ensures title.ends.place)).ends
