-- What is known of the mark and of those after it is what was.
use Rattle.std.proofs.Common.{length}
use Rattle.markdown_spans.proofs.SpanClosersLemmas.{Takes}
use Rattle.markdown_spans.proofs.span_closers.take_closer.Given as goal

abbrev pub invariant-ahead : goal.invariant-ahead
invariant-ahead l = Takes l.number l.fn.ahead.items l.ahead.items

abbrev pub decreases-ahead : goal.decreases-ahead
decreases-ahead l = length l.ahead.items
