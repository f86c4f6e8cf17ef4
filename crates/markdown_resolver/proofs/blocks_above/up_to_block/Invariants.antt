-- Behind the place that was reached is no block.
use Rattle.std.proofs.Common.{◌-◌, ◌≡◌, ◌≤◌, length, map, take}
use Rattle.markdown_base.specs.BlockTree.{item_at}
use Rattle.markdown_resolver.specs.BlocksAbove.{up_to_block}
use Rattle.markdown_resolver.proofs.blocks_above.up_to_block.Given as goal

abbrev pub invariant-outwards : goal.invariant-outwards
invariant-outwards l = record {
  low : l.searched ≤ l.count;
  high : l.count ≤ length l.tree.spine;
  none : up_to_block (map (item_at l.tree.nodes) l.tree.spine)
      ≡ up_to_block (take l.count (map (item_at l.tree.nodes) l.tree.spine));
}

abbrev pub decreases-outwards : goal.decreases-outwards
decreases-outwards l = l.count - l.searched
