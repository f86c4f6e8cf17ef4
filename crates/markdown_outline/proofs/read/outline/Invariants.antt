-- The items so far are events, and they have been read.
use Rattle.markdown_outline.specs.OutlineSoFar.{entries_view}
use Rattle.markdown_outline.proofs.OutlineReadLemmas.{TookIn}
use Rattle.markdown_outline.proofs.read.outline.Given as goal

abbrev pub invariant-loop-item : goal.invariant-loop-item
invariant-loop-item g l = TookIn (entries_view l.entries) l.yielded
