use Rattle.markdown_heading_ids.specs.HeadingIdsState.{ids_state}
use Rattle.markdown_heading_ids.proofs.HeadingIdsRunLemmas.{returns_with_ids}
use Rattle.markdown_heading_ids.proofs.laws.a_new_adapter_returns_the_events_with_ids.Goals as goal

pub returns : goal.returns
returns g c taken new = returns_with_ids g.I.Iterator.next_gives ids_state c.args.ids.now taken new
