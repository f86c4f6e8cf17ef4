-- The events that are left are those at the call.
use Rattle.std.proofs.Common.{◌≡◌, ◌≤◌}
use Rattle.markdown_records.specs.RecordsLeft.{EntriesCanBeRead, bytes_left, events_left}
use Rattle.markdown_records.proofs.record_events.RecordEventsIterator.next.Given as goal

abbrev pub invariant-entries : goal.invariant-entries
invariant-entries l = record {
  can : EntriesCanBeRead l.self;
  same : events_left l.fn.self ≡ events_left l.self;
  fewer : bytes_left l.self ≤ bytes_left l.fn.self;
}

abbrev pub decreases-entries : goal.decreases-entries
decreases-entries l = bytes_left l.self
