-- What was passed so far is a front of the chain, and nothing in it is sought.
use Rattle.std.proofs.Common.{ℕ, List, length}
use Rattle.markdown_base.specs.BlockTree.{Numbered}
use Rattle.markdown_spans.specs.ChainInArena.{HasChain, LeadsThrough, numbers_ahead}
use Rattle.markdown_spans.specs.ChainWalk.{Passes}
use Rattle.markdown_spans.proofs.span_marks.walk_to.Given as goal

abbrev pub invariant-walk : goal.invariant-walk
invariant-walk l = record {
  some : HasChain l.tree.nodes l.link;
  passes : (low : ℕ) (chain : List Numbered) → LeadsThrough l.tree.nodes low l.fn.first chain
      → Passes l.kind l.wanted l.tree.nodes chain l.link l.fn.noted.items l.noted.items l.fn.visits l.visits;
}

abbrev pub decreases-walk : goal.decreases-walk
decreases-walk l = numbers_ahead (length l.tree.nodes) l.link
