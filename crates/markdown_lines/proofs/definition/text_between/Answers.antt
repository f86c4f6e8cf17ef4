-- A line more, and the last part.
use Rattle.std.proofs.Common.{◌∙◌, sym, subst, List, ℕ}
use Rattle.std.specs.String.{string_bytes}
use Rattle.markdown_lines.specs.HeldPlaces.{IsBetween}
use Rattle.markdown_lines.proofs.HeldBetweenLemmas.{Joins, joins_last, joins_more}
use Rattle.markdown_lines.proofs.definition.text_between.Goals as goal

pub lines-preserved : goal.lines-preserved
lines-preserved c =
    λ (places : IsBetween c.args.text.now c.args.lines.now c.args.from c.args.to).
    let so_far = c.lines.invariant places in
    subst (λ (xs : List ℕ). Joins c.args.text.now c.args.lines.now c.args.from c.args.to xs c.in-Some.next)
    (sym c.in_ok-push_str.ensures.bytes)
    (joins_more c.args.text.now c.args.lines.now c.args.from c.args.to (string_bytes c.lines.joined) c.lines.at
    c.in-Some.part.now c.in-Some.next so_far c.lines-test.true c.in-Some.ensures.on
    (c.in-Some.ensures.value so_far.between.begins))

pub returns : goal.returns
returns c =
    λ (places : IsBetween c.args.text.now c.args.lines.now c.args.from c.args.to).
    c.in_ok-push_str-2.ensures.bytes
    ∙ joins_last c.args.text.now c.args.lines.now c.args.from c.args.to (string_bytes c.lines.joined) c.lines.at
    c.part_of.result.now (c.lines.invariant places) c.lines-test.false c.part_of.ensures
