-- By induction over the events that are given.
use Rattle.markdown_records.proofs.EventsLemmas.{returns_left}
use Rattle.markdown_records.proofs.laws.the_events_left_are_returned.Goals as goal

pub returns : goal.returns
returns c = returns_left c.args.events.now
