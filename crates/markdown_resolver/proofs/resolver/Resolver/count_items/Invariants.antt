-- Some items were counted, and the others follow.
use Rattle.std.specs.Prelude.{◌≡◌, Some}
use Rattle.markdown_base.specs.ArenaForest.{Spells, forest_at, links_of}
use Rattle.markdown_document.specs.ResolverStates.{items_from}
use Rattle.markdown_resolver.proofs.ReadingLemmas.{Counted}
use Rattle.markdown_resolver.proofs.resolver.Resolver.count_items.Given as goal

abbrev pub invariant-chain : goal.invariant-chain
invariant-chain g l = record {
  spelled : Spells (links_of l.tree.nodes) l.at (forest_at (links_of l.tree.nodes) l.at);
  resolver : l.self ≡ record l.fn.self { work = record l.fn.self.work { items = l.self.work.items } };
  counted : Counted l.fn.self.work.items l.self.work.items (items_from l.tree.nodes (Some l.first))
      (items_from l.tree.nodes l.at);
}

abbrev pub decreases-chain : goal.decreases-chain
decreases-chain g l = items_from l.tree.nodes l.at
