-- The nodes so far keep their rules.
use Rattle.std.proofs.Common.{take}
use Rattle.std.specs.List.{AllByRecursion}
use Rattle.markdown_base.specs.ArenaRules.{NodeKeepsRules}
use Rattle.markdown_base.specs.WellFormed.{counts_of}
use Rattle.markdown_blocks.proofs.rules.all_keep_rules.Given as goal

abbrev pub invariant-nodes : goal.invariant-nodes
invariant-nodes l = AllByRecursion (NodeKeepsRules l.text (counts_of l.parts) l.tree.nodes) (take l.ix-index l.order)
