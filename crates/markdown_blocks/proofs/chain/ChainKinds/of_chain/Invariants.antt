-- What was found of the items before the link at hand.
use Rattle.markdown_blocks.proofs.NodeLemmas.{TellsSoFar, chain_length}
use Rattle.markdown_blocks.proofs.chain.ChainKinds.of_chain.Given as goal

abbrev pub invariant-chain : goal.invariant-chain
invariant-chain l = TellsSoFar l.tree.nodes l.fn.first l.link l.kinds

abbrev pub decreases-chain : goal.decreases-chain
decreases-chain l = chain_length l.tree.nodes l.link
