-- The chain is there from the link on, the first that ends past the byte is still ahead, and the items before are
-- counted.
use Rattle.std.proofs.Common.{◌≡◌, ◌+◌}
use Rattle.markdown_base.specs.ArenaForest.{Spells, forest_at, links_of}
use Rattle.markdown_base.specs.Forest.{roots}
use Rattle.markdown_document.specs.ResolverStates.{items_from}
use Rattle.markdown_resolver.specs.Rewritten.{first_past}
use Rattle.markdown_resolver.proofs.found.first_past.Given as goal

abbrev pub invariant-chain : goal.invariant-chain
invariant-chain l = record {
  spelled : Spells (links_of l.tree.nodes) l.next (forest_at (links_of l.tree.nodes) l.next);
  ahead : first_past l.tree.nodes l.end (roots (forest_at (links_of l.tree.nodes) l.fn.first))
      ≡ first_past l.tree.nodes l.end (roots (forest_at (links_of l.tree.nodes) l.next));
  counted : items_from l.tree.nodes l.fn.first ≡ l.passed + items_from l.tree.nodes l.next;
}

abbrev pub decreases-chain : goal.decreases-chain
decreases-chain l = items_from l.tree.nodes l.next
