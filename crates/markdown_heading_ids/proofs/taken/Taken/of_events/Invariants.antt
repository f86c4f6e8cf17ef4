-- The items so far are events, and their ids are taken.
use Rattle.markdown_heading_ids.proofs.TakenReadLemmas.{TookIds}
use Rattle.markdown_heading_ids.proofs.taken.Taken.of_events.Given as goal

abbrev pub invariant-loop-item : goal.invariant-loop-item
invariant-loop-item g l = TookIds l.taken l.yielded
