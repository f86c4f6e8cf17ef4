use Rattle.std.proofs.Common.{refl, sym, ◌∙◌, arith, false}
use Rattle.std.proofs.lemmas.List.{length-drop, take_rest}
use Rattle.markdown_scan.specs.Destination.{bare_length}
use Rattle.markdown_scan.proofs.DestinationLemmas.{bare_step, drop_next, ordinary_step, ordinary_steps}
use Rattle.markdown_scan.proofs.destination.bare_length.Goals as goal

pub loop-first-preserved : goal.loop-first-preserved
loop-first-preserved c =
    let split = c.in-Some.ensures.cases in
    let invariant = c.loop-first.invariant in
    record {
      sum = omega (arith, split.1, invariant.sum);
      here = drop_next c.args.bytes.now c.in-Some.tail.now c.loop-first.at c.in-Some.first.now
          (sym split.0 ∙ invariant.here);
      few = omega (arith, invariant.few, c.open_after-opened.ensures.more);
      value = rw (c.is_bare-escaped.ensures, c.open_after-opened.ensures.value) (
          bare_step c.args.max_nesting (bare_length c.args.max_nesting false 0 c.args.bytes.now) c.loop-first.escaped
          c.loop-first.opened
          c.loop-first.at c.in-Some.first.now c.in-Some.tail.now
          (rw split.0 at invariant.value) (sym c.is_past_bare.ensures ∙ c.if-is_past_bare.false)
          (sym c.is_too_deep.ensures
          ∙ c.if-is_too_deep.false));
    }

pub loop-first-preserved-then-not-may_matter : goal.loop-first-preserved-then-not-may_matter
loop-first-preserved-then-not-may_matter c =
    let split = c.in-Some.ensures.cases in
    let invariant = c.loop-first.invariant in
    record {
      sum = omega (arith, split.1, invariant.sum);
      here = drop_next c.args.bytes.now c.in-Some.tail.now c.loop-first.at c.in-Some.first.now
          (sym split.0 ∙ invariant.here);
      few = omega (arith, invariant.few);
      value =
          ordinary_step c.args.max_nesting (bare_length c.args.max_nesting false 0 c.args.bytes.now)
          c.loop-first.escaped
          c.loop-first.opened c.loop-first.at c.in-Some.first.now c.in-Some.tail.now (rw split.0 at invariant.value)
          (sym c.if-not-may_matter.ensures);
    }

pub loop-first-init : goal.loop-first-init
loop-first-init c =
    let past = c.past_ordinary-start.ensures in
    rw take_rest (record {
      sum = omega (arith, past.within, length-drop c.past_ordinary-start.result c.args.bytes.now);
      here = refl;
      few = omega arith;
      value = ordinary_steps c.args.max_nesting c.args.bytes.now c.past_ordinary-start.result past;
    })
