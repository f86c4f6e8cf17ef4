-- The items so far are kept, and the heading goes on.
use Rattle.std.proofs.Common.{◌+◌, ◌≤◌, length, string_bytes}
use Rattle.std.specs.Iterator.{IsFinite, size}
use Rattle.markdown_heading_ids.proofs.HeadingReadLemmas.{IsReadingHeading}
use Rattle.markdown_heading_ids.proofs.adapter.read_heading.Given as goal

abbrev pub invariant-reading : goal.invariant-reading
invariant-reading g l = record {
  reading : IsReadingHeading g.I.Iterator.next_gives l.fn.iter l.kept.items (string_bytes l.words) l.iter;
  can : g.I.Iterator.can_next l.iter;
  finite : IsFinite (g.I.Iterator.remaining l.iter);
  fewer : length l.kept.items + size (g.I.Iterator.remaining l.iter) ≤ size (g.I.Iterator.remaining l.fn.iter);
}

abbrev pub decreases-reading : goal.decreases-reading
decreases-reading g l = size (g.I.Iterator.remaining l.iter)
