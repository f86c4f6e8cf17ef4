use Rattle.markdown_safe.proofs.PreparedEventsLemmas.{safe_events_deep}
use Rattle.markdown_safe.proofs.laws.safe_events_nest_no_deeper.Goals as goal

pub returns : goal.returns
returns c = λ rules events nest. safe_events_deep rules events nest
