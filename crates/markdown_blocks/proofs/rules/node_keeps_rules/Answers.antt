-- The node is there, and the chain below it was told; a later test is of an item whose range was tested.
use Rattle.std.proofs.Common.{◌≡◌, true}
use Rattle.markdown_blocks.proofs.rules.node_keeps_rules.Goals.{then-chains_are_kept, else-chains_are_kept}
use Rattle.markdown_blocks.proofs.rules.node_keeps_rules.Goals.{then-inline_in_order, else-inline_in_order}
use Rattle.markdown_blocks.proofs.rules.node_keeps_rules.Goals.{then-ranges_lie_in, else-ranges_lie_in}
use Rattle.markdown_blocks.proofs.rules.node_keeps_rules.Goals as goal

pub item-item-requires : goal.item-item-requires
item-item-requires c = c.requires.within

pub child-requires : goal.child-requires
child-requires c = c.requires.within

pub of_chain-below-requires : goal.of_chain-below-requires
of_chain-below-requires c = rw c.child.ensures.value c.requires.below

pub inline_in_order-requires : goal.inline_in_order-requires
inline_in_order-requires c = c.requires.within

pub chains_are_kept-requires-clause-there : goal.chains_are_kept-requires-clause-there
chains_are_kept-requires-clause-there c = c.requires

pub chains_are_kept-requires-clause-below : goal.chains_are_kept-requires-clause-below
chains_are_kept-requires-clause-below c = rw c.child.ensures.value at c.of_chain-below.ensures

pub markup_is_there-requires : goal.markup_is_there-requires
markup_is_there-requires c =
    let ordered : c.if-inline_in_order.value ≡ true = elim c.if-chains_are_kept.branch [
      | then-chains_are_kept w ↦ w.if-chains_are_kept.true
      | else-chains_are_kept w ↦ cc
    ] in
    let inside : c.if-ranges_lie_in.value ≡ true = elim c.if-inline_in_order.branch [
      | then-inline_in_order w ↦ w.if-inline_in_order.true
      | else-inline_in_order w ↦ cc
    ] in
    elim c.if-ranges_lie_in.branch [
      | then-ranges_lie_in w ↦ c.ranges_lie_in.ensures.0 w.if-ranges_lie_in.true
      | else-ranges_lie_in w ↦ cc
    ]

pub runs_are_whole-requires : goal.runs_are_whole-requires
runs_are_whole-requires c = c.requires.within

pub blocks_are_settled-requires-clause-there : goal.blocks_are_settled-requires-clause-there
blocks_are_settled-requires-clause-there c = c.requires.within

pub blocks_are_settled-requires-clause-below : goal.blocks_are_settled-requires-clause-below
blocks_are_settled-requires-clause-below c = rw c.child.ensures.value at c.of_chain-below.ensures
