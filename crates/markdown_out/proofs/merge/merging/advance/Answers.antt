use Rattle.std.proofs.Common.{◌≡◌, ◌<◌, ◌+◌, ◌*◌, ◌∷◌, [], sym, ap, subst, ◌∙◌, arith}
use Rattle.std.specs.Iterator.{size}
use Rattle.std.specs.Option.{option_map}
use Rattle.markdown_out.specs.MergeNext.{formed_view}
use Rattle.markdown_out.specs.TextForms.{boxed_through}
use Rattle.markdown_out.specs.HeldItems.{held_items}
use Rattle.markdown_out.specs.TakenAnswers.{again_count, given_answers, given_count, held_count}
use Rattle.markdown_out.specs.AdvanceSteps.{IsMerged}
use Rattle.markdown_out.proofs.MergeNextLemmas.{merged-more, can_merge-after, fewer-after, on_error, reads-item}
use Rattle.markdown_out.proofs.merge.merging.advance.Goals as goal

pub returns-in-Give-clause-passes : goal.returns-in-Give-clause-passes
returns-in-Give-clause-passes g c =
    let through = g.T.At.EventRange.through in
    let view = formed_view g.T.MergeItem.parts in
    let steps = g.I.Iterator.next_gives in
    let after = c.in_ok-step.next in
    let more = merged-more through view steps c.reading.held c.in_ok-step.step after c.next.result
    c.split_item-answer.result
    c.reading.invariant.merged c.next.ensures.steps c.split_item-answer.ensures.view c.in_ok-step.ensures.takes in
    let given : given_answers c.in_ok-step.step ≡ option_map view c.rebuilt.result ∷ [] =
    ap given_answers c.in-Give.is ∙ ap (λ x. x ∷ []) (sym c.rebuilt.ensures.view) in
    subst (λ given. IsMerged (boxed_through through) view steps (held_items c.args.held) c.args.iter.now given
    (held_items after)
    c.next.new.self) given
    more

pub reading-preserved : goal.reading-preserved
reading-preserved g c =
    let through = g.T.At.EventRange.through in
    let view = formed_view g.T.MergeItem.parts in
    let steps = g.I.Iterator.next_gives in
    let after = c.in_ok-step.next in
    let can = c.reading.invariant.can_merge in
    let more = merged-more through view steps c.reading.held c.in_ok-step.step after c.next.result
    c.split_item-answer.result
    c.reading.invariant.merged c.next.ensures.steps c.split_item-answer.ensures.view c.in_ok-step.ensures.takes in
    let given : given_answers c.in_ok-step.step ≡ [] = ap given_answers c.in-Again.is in
    record {
      merged = subst (λ given. IsMerged (boxed_through through) view steps
          (held_items c.args.held) c.args.iter.now given
          (held_items after)
          c.next.new.self) given more;
      can_merge = can_merge-after steps c.next.result can c.next.ensures.steps c.next.ensures.goes;
      fewer = omega (
        arith,
        c.reading.invariant.fewer,
        c.in_ok-step.ensures.takes.counts,
        c.split_item-answer.ensures.count,
        fewer-after steps
            c.next.result can c.next.ensures.steps c.next.ensures.goes,
      );
    }

pub reading-smaller : goal.reading-smaller
reading-smaller g c =
    let steps = g.I.Iterator.next_gives in
    let rest = g.I.Iterator.remaining in
    let takes = c.in_ok-step.ensures.takes in
    let again : again_count c.in_ok-step.step ≡ 1 = ap again_count c.in-Again.is in
    let fewer = fewer-after steps c.next.result c.reading.invariant.can_merge c.next.ensures.steps c.next.ensures.goes
    in
    let smaller : 2 * size (rest c.next.new.self) + held_count c.in_ok-step.next < 2 * size (rest c.reading.iter) +
    held_count c.reading.held
    = omega (arith, again, takes.needs, takes.holds, takes.counts, c.split_item-answer.ensures.count, fewer) in
    smaller

pub returns-in-Give-clause-again : goal.returns-in-Give-clause-again
returns-in-Give-clause-again g c =
    can_merge-after g.I.Iterator.next_gives c.next.result c.reading.invariant.can_merge c.next.ensures.steps
    c.next.ensures.goes

pub returns-in_err-step-clause-again : goal.returns-in_err-step-clause-again
returns-in_err-step-clause-again g c =
    can_merge-after g.I.Iterator.next_gives c.next.result c.reading.invariant.can_merge c.next.ensures.steps
    c.next.ensures.goes

pub returns-in-Give-clause-less : goal.returns-in-Give-clause-less
returns-in-Give-clause-less g c =
    let steps = g.I.Iterator.next_gives in
    let takes = c.in_ok-step.ensures.takes in
    let given = ap given_count c.in-Give.is in
    omega (
      arith,
      given,
      takes.counts,
      c.rebuilt.ensures.count,
      c.split_item-answer.ensures.count,
      c.reading.invariant.fewer,
      fewer-after steps c.next.result c.reading.invariant.can_merge c.next.ensures.steps c.next.ensures.goes,
    )

pub returns-in_err-step-clause-stops : goal.returns-in_err-step-clause-stops
returns-in_err-step-clause-stops g c =
    on_error c.from_residual.result
    (reads-item g.I.Iterator.next_gives c.args.iter.now c.reading.iter c.next.new.self
    c.reading.invariant.merged.answers
    c.next.result c.reading.invariant.merged.read c.next.ensures.steps
    (omega (arith, c.split_item-answer.ensures.count, c.in_err-step.ensures.refused)))
