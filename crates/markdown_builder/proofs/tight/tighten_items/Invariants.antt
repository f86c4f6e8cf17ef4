-- Some paragraphs were made tight, and the others stand in the items from the link on, which leads to ever larger
-- numbers.
use Rattle.std.proofs.Common.{◌≤◌, length}
use Rattle.std.specs.Prelude.{IfSome}
use Rattle.markdown_base.specs.Arena.{child_of}
use Rattle.markdown_builder.specs.TreeSteps.{Tightens}
use Rattle.markdown_builder.specs.TreeLevels.{items_tightened}
use Rattle.markdown_builder.proofs.LaidLemmas.{LaidLeft}
use Rattle.markdown_builder.proofs.ClosedListLemmas.{ItemsLeft, nodes_from}
use Rattle.markdown_builder.proofs.tight.tighten_items.Given as goal

abbrev pub invariant-items : goal.invariant-items
invariant-items l = record {
  steps : Tightens l.fn.list l.fn.tree l.tree;
  after : IfSome l.link (λ number. l.fn.list ≤ number);
  left : ItemsLeft l.fn.tree.nodes l.tree.nodes l.fn.list l.link;
  laid : LaidLeft items_tightened l.fn.tree.nodes (child_of l.fn.tree.nodes l.fn.list) l.tree.nodes l.link;
}

abbrev pub decreases-items : goal.decreases-items
decreases-items l = nodes_from (length l.fn.tree.nodes) l.link
