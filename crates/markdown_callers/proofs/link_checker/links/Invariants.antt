use Rattle.std.proofs.Common.{◌≡◌, ◌++◌, length, map}
use Rattle.std.specs.Vec.Iter.{into_iter_items, into_iter_len}
use Rattle.markdown.specs.ReadingWords.{viewed}
use Rattle.markdown_callers.specs.LinkChecker.{link_target, targets_of}
use Rattle.markdown_callers.proofs.link_checker.links.Given as goal

-- the links so far are those of the events so far, and these are a beginning of all events
abbrev pub invariant-loop-event : goal.invariant-loop-event
invariant-loop-event l = record {
  found : map link_target l.links.items ≡ targets_of (viewed l.yielded);
  taken : l.yielded ++ into_iter_items l.event-iterator ≡ into_iter_items l.initial.event-iterator;
  left : into_iter_len l.event-iterator ≡ length (into_iter_items l.event-iterator);
}
