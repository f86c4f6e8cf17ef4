use Rattle.markdown_autolinks.proofs.RangeLawLemmas.{events_rise, runs_rise}
use Rattle.markdown_autolinks.proofs.laws.ranges_stay_in_order.Goals as goal

pub returns-clause-run : goal.returns-clause-run
returns-clause-run c = runs_rise

pub returns-clause-events : goal.returns-clause-events
returns-clause-events c = events_rise
