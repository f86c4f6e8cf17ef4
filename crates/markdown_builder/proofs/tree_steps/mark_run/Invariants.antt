-- The last items so far are marked, and the tree is as large.
use Rattle.std.proofs.Common.{◌≡◌, length}
use Rattle.markdown_builder.specs.TreeSteps.{run_marked}
use Rattle.markdown_builder.proofs.tree_steps.mark_run.Given as goal

abbrev pub invariant-characters : goal.invariant-characters
invariant-characters l = record {
  count : length l.tree.nodes ≡ length l.fn.tree.nodes;
  marked : l.tree ≡ run_marked l.fn.tree l.stop l.opens l.closes l.marked;
}
