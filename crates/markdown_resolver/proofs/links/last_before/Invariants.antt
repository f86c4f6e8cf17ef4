-- The closer is ahead, after the rest of the nodes inside.
use Rattle.std.proofs.Common.{◌<◌, ℕ, List, length}
use Rattle.markdown_base.specs.Arena.{sibling_of}
use Rattle.markdown_base.specs.ArenaForest.{Spells, forest_at, links_of}
use Rattle.markdown_document.specs.ResolverStates.{items_from}
use Rattle.markdown_document.specs.Tables.{Tables}
use Rattle.markdown_resolver.specs.ClosedOver.{CanClose}
use Rattle.markdown_resolver.proofs.LastInsideLemmas.{IsAhead}
use Rattle.markdown_resolver.proofs.links.last_before.Given as goal

abbrev pub invariant-inside : goal.invariant-inside
invariant-inside l = record {
  within : l.last < length l.tree.nodes;
  spelled : Spells (links_of l.tree.nodes) (sibling_of l.tree.nodes l.last)
      (forest_at (links_of l.tree.nodes) (sibling_of l.tree.nodes l.last));
  ahead : (source : List ℕ) (tables : Tables) (inside : List ℕ) (byte : ℕ)
      → CanClose source tables l.tree.nodes l.opener l.closer inside byte
      → IsAhead l.tree.nodes l.opener l.closer l.last inside;
}

abbrev pub decreases-inside : goal.decreases-inside
decreases-inside l = items_from l.tree.nodes (sibling_of l.tree.nodes l.last)
