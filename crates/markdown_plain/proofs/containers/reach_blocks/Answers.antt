-- The next block is a leaf, takes nothing, ends, or continues.
use Rattle.std.proofs.Common.{◌≡◌, ◌+◌, ◌∙◌, drop, refl, sym, ap, arith}
use Rattle.markdown_plain.specs.Containers.{Reach, reach_from, reach_of}
use Rattle.markdown_plain.specs.OpenBlocks.{outer_of}
use Rattle.markdown_plain.specs.Stretches.{starts}
use Rattle.markdown_plain.proofs.ContainersLemmas.{none_left, next_is_leaf, next_takes, AtNextStretch}
use Rattle.markdown_plain.proofs.ContainersLemmas.{ahead_deep, past_stretch_at, starts_at_first, starts_past_any}
use Rattle.markdown_plain.proofs.containers.reach_blocks.Goals as goal

pub blocks-2-init : goal.blocks-2-init
blocks-2-init c = record {
  within = omega arith;
  all = refl;
  ahead = λ known. c.requires known ∙ starts_at_first c.args.stretches.old_notes c.args.blocks.now;
  goes_on = cc;
}

pub returns-then-not-is_container : goal.returns-then-not-is_container
returns-then-not-is_container c =
    sym (next_is_leaf c.args.stretches.old_notes c.args.item_is_empty c.args.line.stop c.args.blocks.now
    c.blocks-2.reached.depth (reach_of c.args.text.now c.args.line.stop c.blocks-2.reached) _ c.blocks-2-test.true
    (sym c.is_container.ensures ∙ c.if-not-is_container.true)) ∙ c.blocks-2.invariant.goes_on

pub returns-in-None : goal.returns-in-None
returns-in-None c =
    sym (next_takes c.args.stretches.old_notes c.args.item_is_empty c.args.line.stop c.args.blocks.now
    c.blocks-2.reached.depth (reach_of c.args.text.now c.args.line.stop c.blocks-2.reached) _ _ c.blocks-2-test.true
    (sym c.is_container.ensures ∙ c.if-not-is_container.false) c.in-None.ensures) ∙ c.blocks-2.invariant.goes_on

pub blocks-2-preserved : goal.blocks-2-preserved
blocks-2-preserved c =
    let blocks = c.args.blocks.now in
    let from = reach_from c.args.stretches.old_notes c.args.item_is_empty c.args.line.stop in
    let after = c.after_container-reached.ensures in
    let depth : c.after_container-reached.result.depth ≡ c.blocks-2.reached.depth + 1 = ap (λ (r : Reach). r.depth)
    after in
    record {
      within = omega (arith, depth, c.blocks-2-test.true);
      all = ap (λ (r : Reach). r.all) after;
      ahead = λ known. c.starts_after-starts-in-Some.ensures
          ∙ rw depth (starts_past_any c.args.stretches.old_notes c.blocks-2.reached.depth blocks
          c.blocks-2.starts.now c.blocks-2-test.true (c.blocks-2.invariant.ahead known));
      goes_on =
          ap (λ n. from (drop n blocks) (reach_of c.args.text.now c.args.line.stop c.after_container-reached.result))
          depth
          ∙ (ap (from (drop (c.blocks-2.reached.depth + 1) blocks)) after
          ∙ (sym (next_takes c.args.stretches.old_notes c.args.item_is_empty c.args.line.stop blocks
          c.blocks-2.reached.depth (reach_of c.args.text.now c.args.line.stop c.blocks-2.reached) _ _
          c.blocks-2-test.true (sym c.is_container.ensures ∙ c.if-not-is_container.false) c.in-Some.ensures)
          ∙ c.blocks-2.invariant.goes_on));
    }

ahead_here : (c : goal.After-starts_after-starts) → c.blocks-2.starts.now
    ≡ starts c.args.stretches.old_notes c.blocks-2.reached.depth
    (outer_of (drop c.blocks-2.reached.depth c.args.blocks.now))
ahead_here c = c.blocks-2.invariant.ahead c.if-stretches.true
    ∙ ahead_deep c.args.stretches.old_notes c.blocks-2.reached.depth c.args.blocks.now c.if-reached-ge-FEW.true

past_this_stretch : (c : goal.After-starts_after-starts)
    → AtNextStretch c.args.stretches.old_notes c.args.item_is_empty c.args.line.stop c.blocks-2.reached.depth
    c.args.blocks.now (reach_of c.args.text.now c.args.line.stop c.blocks-2.reached) c.next_start.result
past_this_stretch c =
    rw (c.next_start.ensures, ahead_here c)
    (past_stretch_at c.args.stretches.old_notes c.args.item_is_empty c.args.line.stop c.blocks-2.reached.depth _
    c.args.blocks.now _ (reach_of c.args.text.now c.args.line.stop c.blocks-2.reached) c.if-reached-last.true
    (omega arith) (c.is_skipped.ensures c.if-is_skipped.true c.args.text.now) c.blocks-2.invariant.all refl)

pub blocks-2-preserved-then-is_skipped : goal.blocks-2-preserved-then-is_skipped
blocks-2-preserved-then-is_skipped c =
    let past = past_this_stretch c in
    record {
      within = omega (arith, past.within);
      all = c.blocks-2.invariant.all;
      ahead = λ known. c.starts_after-starts.ensures ∙ rw (ahead_here c) (past.ahead
          ∙ sym (ahead_deep c.args.stretches.old_notes c.next_start.result c.args.blocks.now
          (omega (arith, past.more, c.if-reached-ge-FEW.true))));
      goes_on = sym past.reached ∙ c.blocks-2.invariant.goes_on;
    }

pub blocks-2-smaller-then-is_skipped : goal.blocks-2-smaller-then-is_skipped
blocks-2-smaller-then-is_skipped c = omega (arith, (past_this_stretch c).more, (past_this_stretch c).within)

pub returns : goal.returns
returns c =
    sym (none_left c.args.stretches.old_notes c.args.item_is_empty c.args.line.stop c.args.blocks.now
    c.blocks-2.reached.depth (reach_of c.args.text.now c.args.line.stop c.blocks-2.reached) c.blocks-2-test.false)
    ∙ c.blocks-2.invariant.goes_on
