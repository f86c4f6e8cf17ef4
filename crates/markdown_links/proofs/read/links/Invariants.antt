-- The items so far are events, and they have been read.
use Rattle.markdown_links.proofs.LinksReadLemmas.{TookIn}
use Rattle.markdown_links.proofs.read.links.Given as goal

abbrev pub invariant-loop-item : goal.invariant-loop-item
invariant-loop-item g l = TookIn l.so_far l.yielded
