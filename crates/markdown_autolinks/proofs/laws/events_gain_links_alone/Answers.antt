use Rattle.markdown_autolinks.proofs.LawLemmas.{links_stay_apart, nesting_stays, only_links_are_added}
use Rattle.markdown_autolinks.proofs.laws.events_gain_links_alone.Goals as goal

pub returns-clause-only : goal.returns-clause-only
returns-clause-only c = only_links_are_added

pub returns-clause-nest : goal.returns-clause-nest
returns-clause-nest c = nesting_stays

pub returns-clause-apart : goal.returns-clause-apart
returns-clause-apart c = links_stay_apart
