-- What closes the later marks was found, and the nearest mark of each key is the first of those.
use Rattle.std.proofs.Common.{length}
use Rattle.std.specs.BTreeMap.{get}
use Rattle.std.specs.Ordering.{nat_cmp}
use Rattle.markdown_spans.proofs.SpanClosersLemmas.{Fills}
use Rattle.markdown_spans.proofs.span_closers.fill_ahead.Given as goal

abbrev pub invariant-noted : goal.invariant-noted
invariant-noted l = Fills l.fn.noted.items l.noted.items l.ahead.items (get nat_cmp l.nearest)

abbrev pub decreases-noted : goal.decreases-noted
decreases-noted l = length l.noted.items
