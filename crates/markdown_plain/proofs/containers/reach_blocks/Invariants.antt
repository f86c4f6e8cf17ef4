-- What is reached of the blocks from the depth reached on is what is reached of all, and the stretches ahead are
-- theirs.
use Rattle.std.proofs.Common.{◌≡◌, ◌≤◌, ◌-◌, true, drop, length}
use Rattle.markdown_plain.specs.Containers.{reach_from, reach_of, reach_start, whole_line}
use Rattle.markdown_plain.proofs.ContainersLemmas.{starts_ahead}
use Rattle.markdown_plain.proofs.containers.reach_blocks.Given as goal

abbrev pub invariant-blocks-2 : goal.invariant-blocks-2
invariant-blocks-2 l = record {
  within : l.reached.depth ≤ length l.blocks;
  all : l.reached.all ≡ true;
  ahead : l.stretches.known ≡ true → l.starts ≡ starts_ahead l.stretches.old_notes l.reached.depth l.blocks;
  goes_on : reach_from l.stretches.old_notes l.item_is_empty l.line.stop (drop l.reached.depth l.blocks)
      (reach_of l.text l.line.stop l.reached) ≡ reach_from l.stretches.old_notes l.item_is_empty l.line.stop l.blocks
      (reach_start (whole_line l.text l.line));
}

abbrev pub decreases-blocks-2 : goal.decreases-blocks-2
decreases-blocks-2 l = length l.blocks - l.reached.depth
