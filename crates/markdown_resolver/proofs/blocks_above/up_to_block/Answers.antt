-- The nodes are asked from the innermost on, as long as none is a block.
use Rattle.std.proofs.Common.{◌≡◌, ◌-◌, ◌∙◌, get_or, sym, refl, arith}
use Rattle.markdown_base.specs.BlockTree.{item_at, no_item}
use Rattle.markdown_resolver.proofs.BlocksAboveLemmas.{above_within, up_to_last}
use Rattle.markdown_resolver.proofs.blocks_above.up_to_block.Goals as goal

pub item-requires : goal.item-requires
item-requires c =
    let at = c.outwards.invariant in
    rw c.walk_spine-spine.ensures (above_within c.requires.above.0 c.args.tree.now.nodes c.requires.above.1
    c.args.tree.now.spine (c.outwards.count - 1) c.requires.above.2
    (omega (arith, at.high, c.outwards-test.true)))

pub outwards-preserved : goal.outwards-preserved
outwards-preserved c =
    let at = c.outwards.invariant in
    let tree = c.args.tree.now in
    let count = c.outwards.count in
    let item = c.item.result.now in
    let is : item ≡ item_at tree.nodes (get_or tree.spine (count - 1) 0) =
    rw c.walk_spine-spine.ensures at (c.item.ensures no_item) in
    let last = up_to_last tree.nodes tree.spine count item (omega (arith, c.outwards-test.true)) at.high is in
    record {
      low = omega (arith, c.outwards-test.true);
      high = omega (arith, at.high);
      none = at.none ∙ last ∙ rw (sym c.is_block.ensures ∙ c.if-is_block.false) refl;
    }

pub returns-then-is_block-clause-found : goal.returns-then-is_block-clause-found
returns-then-is_block-clause-found c low =
    let at = c.outwards.invariant in
    let tree = c.args.tree.now in
    let count = c.outwards.count in
    let item = c.item.result.now in
    let is : item ≡ item_at tree.nodes (get_or tree.spine (count - 1) 0) =
    rw c.walk_spine-spine.ensures at (c.item.ensures no_item) in
    at.none ∙ up_to_last tree.nodes tree.spine count item (omega (arith, c.outwards-test.true)) at.high is
    ∙ rw (sym c.is_block.ensures ∙ c.if-is_block.true) refl
