use Rattle.std.proofs.Common.{◌≡◌, ◌+◌, ◌-◌, ◌≤◌, true, false, length, take, get_or, ◌∙◌, ap, sym, refl, arith}
use Rattle.std.proofs.Common.{inl, inr, rules}
use Rattle.std.proofs.lemmas.List.{take_all}
use Rattle.std.proofs.lemmas.Bool.{cases_eq}
use Rattle.markdown_delims.specs.declared.run.Characters.{Characters}
use Rattle.markdown_delims.specs.MayPair.{may_pair}
use Rattle.markdown_delims.specs.RunSearch.{nearest_run}
use Rattle.markdown_delims.specs.Bounds.{bound_for, lowered, raised_for}
use Rattle.markdown_delims.specs.OpenRuns.{open_runs}
use Rattle.markdown_delims.proofs.StackSteps.{IsSound-cut, potential-cut, IsSound-raised, potential-raised, found_at}
use Rattle.markdown_delims.proofs.StackSteps.{passed_at, missed_at}
use Rattle.markdown_delims.proofs.Searches.{open_runs-raised}
use Rattle.markdown_delims.proofs.BoundLaws.{bound_at-within}
use Rattle.markdown_delims.proofs.open_runs.OpenRuns.take_nearest.Goals as goal

pub invariant_of-self : goal.invariant_of-self
invariant_of-self c =
    let own = c.self.inside in
    let loop = c.loop-i in
    let n : c.len-len.result ≡ length own.stack.items.items = c.len-len.ensures ∙ own.stack.items.ok.0 in
    let i1 : c.compare.new.self.items ≡ own.stack.items =
    ap (λ s. s.items) c.compare.ensures.counted ∙ loop.invariant.same_runs in
    let i2 : c.truncate.new.self.items ≡ take (loop.i - 1) own.stack.items.items =
    c.truncate.ensures.items ∙ ap (λ v. take (loop.i - 1) v.items) i1 in
    let b2 : c.lower.new.self ≡ lowered (loop.i - 1) own.bounds =
    c.lower.ensures ∙ ap (lowered (loop.i - 1)) loop.invariant.same_bounds in
    let x : c.compare.new.self.examined ≡ loop.self-inside.stack.examined + 1 =
    ap (λ s. s.examined) c.compare.ensures.counted in
    rw (i2, b2)
    (IsSound-cut _ _ _ c.self.invariant (loop.i - 1) c.compare.new.self.examined (omega arith) (omega arith))

pub returns-then-compare : goal.returns-then-compare
returns-then-compare c =
    let own = c.self.inside in
    let loop = c.loop-i in
    let closer = c.args.closer.now in
    let n : c.len-len.result ≡ length own.stack.items.items = c.len-len.ensures ∙ own.stack.items.ok.0 in
    let i1 : c.compare.new.self.items ≡ own.stack.items =
    ap (λ s. s.items) c.compare.ensures.counted ∙ loop.invariant.same_runs in
    let i2 : c.truncate.new.self.items ≡ take (loop.i - 1) own.stack.items.items =
    c.truncate.ensures.items ∙ ap (λ v. take (loop.i - 1) v.items) i1 in
    let b2 : c.lower.new.self ≡ lowered (loop.i - 1) own.bounds =
    c.lower.ensures ∙ ap (lowered (loop.i - 1)) loop.invariant.same_bounds in
    let one : loop.i ≡ (loop.i - 1) + 1 = omega arith in
    let low : bound_for closer own.bounds ≤ loop.i - 1 = omega arith in
    let read : c.index-opener.result.now ≡ get_or own.stack.items.items (loop.i - 1) c.index-opener.result.now =
    c.index-opener.ensures ∙ ap (λ v. get_or v.items (loop.i - 1) c.index-opener.result.now) i1 in
    let loop_read : c.index-opener.result.now ≡ get_or loop.self-inside.stack.items.items (loop.i - 1)
    c.index-opener.result.now =
    read ∙ ap (λ v. get_or v.items (loop.i - 1) c.index-opener.result.now) (sym loop.invariant.same_runs) in
    let pairs : may_pair c.index-opener.result.now.run closer ≡ true =
    ap (λ o. may_pair o.run closer) loop_read ∙ sym (c.if-compare.ensures.answer c.index-opener.result.now) in
    let whole : nearest_run closer (open_runs own.bounds (take ((loop.i - 1) + 1) own.stack.items.items)) ≡ nearest_run
    closer (open_runs own.bounds own.stack.items.items) =
    ap (λ m. nearest_run closer (open_runs own.bounds (take m own.stack.items.items))) (sym one)
    ∙ loop.invariant.same_search in
    let x : c.compare.new.self.examined ≡ loop.self-inside.stack.examined + 1 =
    ap (λ s. s.examined) c.compare.ensures.counted in
    record {
      found = rw (i2, b2, ← c.self.view_is)
          (found_at _ _ _ c.self.invariant closer (loop.i - 1) c.index-opener.result.now low (omega arith) read pairs
          whole);
      missed = search rules;
      some = search rules;
      counted = search rules;
      rises = search rules;
      paid = rw (i2, b2, ← c.self.view_is)
          (potential-cut _ _ _ c.self.invariant (loop.i - 1) c.compare.new.self.examined (omega arith) (omega arith));
    }

pub loop-i-preserved : goal.loop-i-preserved
loop-i-preserved c =
    let own = c.self.inside in
    let loop = c.loop-i in
    let closer = c.args.closer.now in
    let n : c.len-len.result ≡ length own.stack.items.items = c.len-len.ensures ∙ own.stack.items.ok.0 in
    let one : loop.i ≡ (loop.i - 1) + 1 = omega arith in
    let x : c.compare.new.self.examined ≡ loop.self-inside.stack.examined + 1 =
    ap (λ s. s.examined) c.compare.ensures.counted in
    let here : (d : Characters) → may_pair (get_or own.stack.items.items (loop.i - 1) d).run closer ≡ false =
    λ d. ap (λ v. may_pair (get_or v.items (loop.i - 1) d).run closer) (sym loop.invariant.same_runs)
    ∙ sym (c.if-compare.ensures.answer d) in
    let whole : nearest_run closer (open_runs own.bounds (take ((loop.i - 1) + 1) own.stack.items.items)) ≡ nearest_run
    closer (open_runs own.bounds own.stack.items.items) =
    ap (λ m. nearest_run closer (open_runs own.bounds (take m own.stack.items.items))) (sym one)
    ∙ loop.invariant.same_search in
    record {
      same_runs = ap (λ s. s.items) c.compare.ensures.counted ∙ loop.invariant.same_runs;
      same_bounds = loop.invariant.same_bounds;
      counted = omega arith;
      above = omega arith;
      within = omega arith;
      failed =
          λ k d low high.
          elim (cases_eq k (loop.i - 1)) [
            | inl is ↦ rw is (here d)
            | inr other ↦ loop.invariant.failed k d (omega arith) high
          ];
      same_search = passed_at _ _ _ c.self.invariant closer (loop.i - 1)
          (record { run = closer; number = 0; count = 0 }) (omega arith)
          (here (record { run = closer; number = 0; count = 0 })) whole;
    }

pub loop-i-init : goal.loop-i-init
loop-i-init c =
    let own = c.self.inside in
    let closer = c.args.closer.now in
    let n : c.len-len.result ≡ length own.stack.items.items = c.len-len.ensures ∙ own.stack.items.ok.0 in
    let w : bound_for closer own.bounds ≤ length own.stack.items.items = bound_at-within closer.delimiter closer
    own.stack.items.items own.bounds c.self.invariant.bound in
    record {
      same_runs = refl;
      same_bounds = refl;
      counted = refl;
      above = omega arith;
      within = omega arith;
      failed = λ k d low high. absurd (omega arith);
      same_search = ap (λ s. nearest_run closer (open_runs own.bounds s))
          (take_all c.len-len.result own.stack.items.items (omega arith));
    }

pub invariant_of-self-2 : goal.invariant_of-self-2
invariant_of-self-2 c =
    let own = c.self.inside in
    let loop = c.loop-i in
    let closer = c.args.closer.now in
    let n : c.len-len.result ≡ length own.stack.items.items = c.len-len.ensures ∙ own.stack.items.ok.0 in
    let at : loop.i ≡ bound_for closer own.bounds = omega arith in
    let b2 : c.raise_for.new.self ≡ raised_for closer (length own.stack.items.items) own.bounds =
    c.raise_for.ensures ∙ ap (λ m. raised_for closer m loop.self-inside.bounds) n
    ∙ ap (raised_for closer (length own.stack.items.items)) loop.invariant.same_bounds in
    rw (b2, loop.invariant.same_runs) (IsSound-raised _ _ _ c.self.invariant closer loop.self-inside.stack.examined
    (omega arith) (λ k x low high. loop.invariant.failed k x (omega arith) high))

pub returns : goal.returns
returns c =
    let own = c.self.inside in
    let loop = c.loop-i in
    let closer = c.args.closer.now in
    let n : c.len-len.result ≡ length own.stack.items.items = c.len-len.ensures ∙ own.stack.items.ok.0 in
    let at : loop.i ≡ bound_for closer own.bounds = omega arith in
    let b2 : c.raise_for.new.self ≡ raised_for closer (length own.stack.items.items) own.bounds =
    c.raise_for.ensures ∙ ap (λ m. raised_for closer m loop.self-inside.bounds) n
    ∙ ap (raised_for closer (length own.stack.items.items)) loop.invariant.same_bounds in
    record {
      found = search rules;
      missed = rw (b2, loop.invariant.same_runs, ← c.self.view_is) (
        missed_at _ _ _ c.self.invariant
            closer loop.i at loop.invariant.same_search,
        open_runs-raised closer own.stack.items.items own.bounds,
      );
      some = search rules;
      counted = search rules;
      rises = search rules;
      paid = rw (b2, loop.invariant.same_runs, ← c.self.view_is)
          (potential-raised _ _ _ c.self.invariant closer loop.self-inside.stack.examined (omega arith));
    }
