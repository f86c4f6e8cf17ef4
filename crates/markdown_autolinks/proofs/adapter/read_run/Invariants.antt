-- Texts have been read after those of the run.
use Rattle.std.proofs.Common.{◌≤◌}
use Rattle.std.specs.Iterator.{IsFinite, size}
use Rattle.markdown_autolinks.proofs.ReadLemmas.{IsReadingRun}
use Rattle.markdown_autolinks.proofs.adapter.read_run.Given as goal

abbrev pub invariant-reading : goal.invariant-reading
invariant-reading g l = record {
  reading : IsReadingRun g.I.Iterator.next_gives l.fn.iter l.fn.run.items l.run.items l.iter;
  can : g.I.Iterator.can_next l.iter;
  finite : IsFinite (g.I.Iterator.remaining l.iter);
  fewer : size (g.I.Iterator.remaining l.iter) ≤ size (g.I.Iterator.remaining l.fn.iter);
}

abbrev pub decreases-reading : goal.decreases-reading
decreases-reading g l = size (g.I.Iterator.remaining l.iter)
