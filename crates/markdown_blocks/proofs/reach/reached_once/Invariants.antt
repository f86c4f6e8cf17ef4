-- What is found so far and what is pending make up the numbers in preorder, if there are such.
use Rattle.std.proofs.Common.{◌+◌, ◌*◌, length, reverse}
use Rattle.markdown_base.specs.ArenaForest.{links_of}
use Rattle.markdown_blocks.proofs.SeenLemmas.{unset}
use Rattle.markdown_blocks.proofs.ReachLemmas.{IsFound}
use Rattle.markdown_blocks.proofs.reach.reached_once.Given as goal

abbrev pub invariant-reach : goal.invariant-reach
invariant-reach l = IsFound (links_of l.tree.nodes) l.seen.items (reverse l.pending.items) l.order.items

abbrev pub decreases-reach : goal.decreases-reach
decreases-reach l = 2 * unset l.seen.items + length l.pending.items
