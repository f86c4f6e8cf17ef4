-- The half that can have the name is searched further.
use Rattle.std.proofs.Common.{ap, ◌∙◌, rules}
use Rattle.std.specs.Cmp.Lexicographic.{slice_cmp}
use Rattle.std.specs.Ordering.{nat_cmp}
use Rattle.markdown_entities.proofs.SearchLemmas.{found_here, none_left, to_earlier, to_later}
use Rattle.markdown_entities.proofs.named_entity.characters_in.Goals as goal

pub loop-row-preserved-in-Less : goal.loop-row-preserved-in-Less
loop-row-preserved-in-Less c = (
  search rules,
  λ known is ok sorted.
      let has = c.loop-row.invariant.1 known is ok sorted in
      to_later has (c.in-Some.ensures.cases has.left has.text_is has.are_rows)
      (c.in-Less.ensures ∙ ap (λ bs. slice_cmp nat_cmp bs c.args.name.now) c.as_bytes.ensures.value),
)

pub loop-row-preserved : goal.loop-row-preserved
loop-row-preserved c = (
  search rules,
  λ known is ok sorted.
      let has = c.loop-row.invariant.1 known is ok sorted in
      to_earlier has (c.in-Some.ensures.cases has.left has.text_is has.are_rows)
      (c.in-Greater.ensures ∙ ap (λ bs. slice_cmp nat_cmp bs c.args.name.now) c.as_bytes.ensures.value),
)

pub returns-in-Equal : goal.returns-in-Equal
returns-in-Equal c = λ known is ok sorted.
    let has = c.loop-row.invariant.1 known is ok sorted in
    found_here has (c.in-Some.ensures.cases has.left has.text_is has.are_rows)
    (c.in-Equal.ensures ∙ ap (λ bs. slice_cmp nat_cmp bs c.args.name.now) c.as_bytes.ensures.value)

pub returns : goal.returns
returns c = λ known is ok sorted.
    let has = c.loop-row.invariant.1 known is ok sorted in
    none_left has (c.in_default.ensures.cases has.left has.text_is has.are_rows)
