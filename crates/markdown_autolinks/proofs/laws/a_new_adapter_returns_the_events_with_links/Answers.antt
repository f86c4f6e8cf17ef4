use Rattle.markdown_autolinks.specs.AutolinksState.{linked_state}
use Rattle.markdown_autolinks.proofs.LinkedRunLemmas.{returns_linked}
use Rattle.markdown_autolinks.proofs.laws.a_new_adapter_returns_the_events_with_links.Goals as goal

pub returns : goal.returns
returns g c source new = returns_linked g.I.Iterator.next_gives linked_state c.args.links.now source new
