-- Some paragraphs were made tight, and the others stand from the link on, which leads to ever larger numbers.
use Rattle.std.proofs.Common.{ℕ, ◌≤◌, length}
use Rattle.std.specs.Prelude.{IfSome}
use Rattle.markdown_builder.specs.TreeSteps.{Tightens}
use Rattle.markdown_builder.specs.TreeLevels.{roots_tightened}
use Rattle.markdown_builder.proofs.LaidLemmas.{LaidLeft}
use Rattle.markdown_builder.proofs.ClosedListLemmas.{SiblingsLeft, nodes_from}
use Rattle.markdown_builder.proofs.tight.tighten_siblings.Given as goal

abbrev pub invariant-siblings : goal.invariant-siblings
invariant-siblings l = record {
  steps : (from : ℕ) → IfSome l.fn.first (λ number. from ≤ number)
      → Tightens from l.fn.tree l.tree × IfSome l.link (λ number. from ≤ number);
  left : SiblingsLeft l.fn.tree.nodes l.tree.nodes l.fn.first l.link;
  laid : LaidLeft roots_tightened l.fn.tree.nodes l.fn.first l.tree.nodes l.link;
}

abbrev pub decreases-siblings : goal.decreases-siblings
decreases-siblings l = nodes_from (length l.fn.tree.nodes) l.link
