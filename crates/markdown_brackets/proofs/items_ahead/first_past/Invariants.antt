-- What is past the byte from here on is what is past it of the whole.
use Rattle.std.proofs.Common.{◌≡◌}
use Rattle.markdown_base.specs.ArenaForest.{links_of, forest_at}
use Rattle.markdown_brackets.specs.ChainAhead.{IsChain, numbers_past}
use Rattle.markdown_brackets.proofs.ChainAheadLemmas.{trees_ahead}
use Rattle.markdown_brackets.proofs.items_ahead.first_past.Given as goal

abbrev pub invariant-chain : goal.invariant-chain
invariant-chain l = record {
  chain : IsChain l.tree.nodes l.at;
  same : numbers_past l.tree.nodes l.byte (forest_at (links_of l.tree.nodes) l.at)
      ≡ numbers_past l.tree.nodes l.byte (forest_at (links_of l.tree.nodes) l.fn.first);
}

abbrev pub decreases-chain : goal.decreases-chain
decreases-chain l = trees_ahead l.tree.nodes l.at
