-- Each find goes on as the definition does, where the run can close.
use Rattle.std.proofs.Common.{◌≡◌, ◌≤◌, ◌^◌, ◌<◌, ℕ, Option, Some, None, ap, refl, arith, length, Ok, Err}
use Rattle.std.specs.Prelude.{IfOk, IsSome, Result}
use Rattle.std.proofs.lemmas.Bool.{not-false}
use Rattle.markdown_delims.proofs.CloseLemmas.{last_within}
use Rattle.markdown_delims.proofs.ClosingLemmas.{kept_read, closing_begin, closing_none, can_keep, opener_before}
use Rattle.markdown_delims.proofs.ClosingLemmas.{can_pair, closing_more, closing_used, closing_left}
use Rattle.markdown_delims.proofs.close.read_run.Goals as goal

if_ok : {A E : Type 0} (P Q : A → Type 0) (r : Result A E) → ((x : A) → P x → Q x) → IfOk r P → IfOk r Q
if_ok P Q (Ok x) h i = h x i
if_ok P Q (Err e) h i = tt

is_some : (o : Option ℕ) → (o ≡ None → ⊥) → IsSome o
is_some None h = absurd (h refl)
is_some (Some x) h = refl

pub returns-then-not-met-clause-ok : goal.returns-then-not-met-clause-ok
returns-then-not-met-clause-ok c =
    if_ok _ _ c.keep.result
    (λ r keeps h rs vs after m st a.
    kept_read h c.args.tree.now c.args.tree.now c.args.met.run vs rs c.args.openers.now c.keep.new.openers r.0 r.1 after
    c.if-not-met.true
    c.keep.ensures.counted (keeps h rs c.args.last vs after st a))
    c.keep.ensures.ok

pub turns-init : goal.turns-init
turns-init c = record {
  goes_on = λ h rs vs after m st a. closing_begin h c.args.met vs rs after c.args.tree.now c.args.openers.now
      c.args.last st a;
  some = c.requires.some;
  paid = omega arith;
}

pub unwrap-requires : goal.unwrap-requires
unwrap-requires c =
    let p = c.requires.stands in
    is_some c.turns.before (opener_before _ _ _ _ _ _ _ _ _ _ _ (c.turns.invariant.goes_on p.chain p.rs p.vs p.after
    p.extensions_are p.stands p.are) c.turns.invariant.some c.in-Some.opener c.take_nearest.new.self.runs
    c.in-Some.ensures.found c.in-Some.ensures.some)

pub pair-root-requires-clause-stands : goal.pair-root-requires-clause-stands
pair-root-requires-clause-stands c =
    let p = c.requires.stands in
    can_pair _ _ _ _ _ _ _ _ _ _ _ (c.turns.invariant.goes_on p.chain p.rs p.vs p.after p.extensions_are p.stands p.are)
    c.turns.invariant.some c.in-Some.opener c.take_nearest.new.self.runs c.in-Some.ensures.found c.in-Some.ensures.some
    c.args.extensions p.extensions_are c.unwrap.result c.unwrap.ensures

pub overflow_add-closer : goal.overflow_add-closer
overflow_add-closer c =
    let p = c.requires.stands in
    let a = c.turns.invariant.goes_on p.chain p.rs p.vs p.after p.extensions_are p.stands p.are in
    let w = last_within p.chain c.turns.tree a.rs c.turns.before c.turns.closer a.vs p.after a.stands
    c.turns.invariant.some in
    let few : length c.turns.tree.nodes ≤ 2 ^ 63 = a.stands.stands.few in
    omega arith

pub returns-then-closer-opener-clause-ok : goal.returns-then-closer-opener-clause-ok
returns-then-closer-opener-clause-ok c h rs vs after m st a =
    let same : c.push.new.self.examined ≡ c.take_nearest.new.self.examined = ap (λ o. o.examined)
    c.in_ok-push.ensures.ok in
    closing_left _ _ _ _ _ _ _ _ _ _ _ (c.turns.invariant.goes_on h rs vs after m st a) c.turns.invariant.some
    c.in-Some.opener c.take_nearest.new.self.runs c.in-Some.ensures.found c.in-Some.ensures.some c.args.extensions m
    c.unwrap.result c.unwrap.ensures c.pair-root.new.tree c.pair-root.result.0 c.pair-root.result.1 c.pair-root.ensures
    c.push.new.self (ap (λ o. o.runs) c.in_ok-push.ensures.ok) (omega (arith, same, c.in-Some.ensures.counted))
    c.if-closer-opener.true (not-false c.args.met.run.can_close c.if-not-met.false)

pub returns-then-closer-opener-2-clause-ok : goal.returns-then-closer-opener-2-clause-ok
returns-then-closer-opener-2-clause-ok c h rs vs after m st a =
    closing_used _ _ _ _ _ _ _ _ _ _ _ (c.turns.invariant.goes_on h rs vs after m st a) c.turns.invariant.some
    c.in-Some.opener c.take_nearest.new.self.runs c.in-Some.ensures.found c.in-Some.ensures.some c.args.extensions m
    c.unwrap.result c.unwrap.ensures c.pair-root.new.tree c.pair-root.result.0 c.pair-root.result.1 c.pair-root.ensures
    c.take_nearest.new.self refl c.in-Some.ensures.counted c.if-closer-opener-2.true
    (not-false c.args.met.run.can_close c.if-not-met.false)

pub turns-preserved : goal.turns-preserved
turns-preserved c =
    let not_equal : c.turns.closer.count ≡ c.in-Some.opener.count → ⊥ = c.if-closer-opener-2.false in
    let more : c.in-Some.opener.count < c.turns.closer.count = omega arith in
    record {
      goes_on = λ h rs vs after m st a.
          closing_more _ _ _ _ _ _ _ _ _ _ _ (c.turns.invariant.goes_on h rs vs after m st a) c.turns.invariant.some
          c.in-Some.opener c.take_nearest.new.self.runs c.in-Some.ensures.found c.in-Some.ensures.some
          c.args.extensions m
          c.unwrap.result c.unwrap.ensures c.pair-root.new.tree c.pair-root.result.0 c.pair-root.result.1
          c.pair-root.ensures c.take_nearest.new.self refl c.in-Some.ensures.counted more;
      some = omega arith;
      paid = omega (arith, c.in-Some.ensures.paid);
    }

pub keep-requires-2-clause-stands : goal.keep-requires-2-clause-stands
keep-requires-2-clause-stands c =
    let p = c.requires.stands in (
      c.args.extensions,
      c.turns.before,
      can_keep _ _ _ _ _ _ _ _ _ _ _
          (c.turns.invariant.goes_on p.chain p.rs p.vs p.after p.extensions_are p.stands p.are)
          c.turns.invariant.some
          c.take_nearest.new.self.runs c.in_default.ensures.missed.0 c.in_default.ensures.missed.1 c.args.extensions
          p.extensions_are,
    )

pub returns-clause-ok : goal.returns-clause-ok
returns-clause-ok c =
    if_ok _ _ c.keep-2.result
    (λ r keeps h rs vs after m st a.
    closing_none _ _ _ _ _ _ _ _ _ _ _ (c.turns.invariant.goes_on h rs vs after m st a) c.turns.invariant.some
    c.take_nearest.new.self.runs c.in_default.ensures.missed.0 c.in_default.ensures.missed.1 c.keep-2.new.openers r.0
    r.1 (not-false c.args.met.run.can_close c.if-not-met.false) keeps (omega (
      arith,
      c.keep-2.ensures.counted,
      c.in_default.ensures.rises,
    ))) c.keep-2.ensures.ok
