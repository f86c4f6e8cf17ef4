-- The node that was entered last ends, and the walk continues after it.
use Rattle.std.proofs.Common.{[], ap, length}
use Rattle.markdown_base.specs.BlockTree.{no_item}
use Rattle.markdown_inline.proofs.WalkStepsLemmas.{fewer_above, went_out_end, went_out_plain}
use Rattle.markdown_inline.proofs.step.step_out.Goals as goal

pub returns-in-None-close_item-clause-gives : goal.returns-in-None-close_item-clause-gives
returns-in-None-close_item-clause-gives c source held w =
    let popped = c.in-Some.ensures.goes in
    went_out_plain source c.args.tree.now c.next_sibling.new.self held c.in-Some.ix c.item-item.result.now popped.0
    w c.requires popped.1
    (rw popped.2 at (c.item-item.ensures no_item)) c.in-None-close_item.ensures
    (rw popped.2 at c.next_sibling.ensures.goes)

pub returns-in-Some-close_item-clause-gives : goal.returns-in-Some-close_item-clause-gives
returns-in-Some-close_item-clause-gives c source held w =
    let popped = c.in-Some.ensures.goes in
    record {
      origins = [];
      texts = tt;
      start = tt;
      went = went_out_end source c.args.tree.now c.next_sibling.new.self held c.in-Some.ix c.item-item.result.now
          popped.0 _ w c.requires popped.1
          (rw popped.2 at (c.item-item.ensures no_item)) c.in-Some-close_item.ensures
          (rw popped.2 at c.next_sibling.ensures.goes);
    }

pub returns-in-None-close_item-clause-above : goal.returns-in-None-close_item-clause-above
returns-in-None-close_item-clause-above c gfm known =
    let popped = c.in-Some.ensures.goes in
    fewer_above c.args.tree.now gfm popped.0 popped.1 popped.2 (c.item-item.ensures no_item) c.next_sibling.ensures.goes
    (ap length c.walk_spine-outer.ensures) c.leave.ensures.left known

pub returns-in-Some-close_item-clause-above : goal.returns-in-Some-close_item-clause-above
returns-in-Some-close_item-clause-above c gfm known =
    let popped = c.in-Some.ensures.goes in
    fewer_above c.args.tree.now gfm popped.0 popped.1 popped.2 (c.item-item.ensures no_item) c.next_sibling.ensures.goes
    (ap length c.walk_spine-outer.ensures) c.leave-in-Some-close_item.ensures.left known
