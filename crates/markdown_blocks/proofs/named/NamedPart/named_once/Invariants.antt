-- All the names are fresh just where those to come are, for the marks at hand.
use Rattle.std.proofs.Common.{drop}
use Rattle.markdown_blocks.specs.NodeRules.{names_of}
use Rattle.markdown_blocks.proofs.NameLemmas.{FreshSoFar}
use Rattle.markdown_blocks.proofs.named.NamedPart.named_once.Given as goal

abbrev pub invariant-names : goal.invariant-names
invariant-names l = FreshSoFar l.size (names_of l.self l.tree.nodes l.order) l.seen.items
    (names_of l.self l.tree.nodes (drop l.ix-index l.order))
