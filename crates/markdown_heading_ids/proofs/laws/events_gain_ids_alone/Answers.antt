use Rattle.markdown_heading_ids.proofs.FreeIdLemmas.{free_is_free}
use Rattle.markdown_heading_ids.proofs.IdsOfEventsLemmas.{a_second_time, each_heading_has_an_id, given_ids_are_fresh}
use Rattle.markdown_heading_ids.proofs.IdsOfEventsLemmas.{only_ids_are_added, outlines_have_ids}
use Rattle.markdown_heading_ids.proofs.MergedIdsLemmas.{merging_keeps_ids}
use Rattle.markdown_heading_ids.proofs.laws.events_gain_ids_alone.Goals as goal

pub returns-clause-only : goal.returns-clause-only
returns-clause-only c = only_ids_are_added

pub returns-clause-each : goal.returns-clause-each
returns-clause-each c = each_heading_has_an_id

pub returns-clause-fresh : goal.returns-clause-fresh
returns-clause-fresh c = given_ids_are_fresh free_is_free

pub returns-clause-again : goal.returns-clause-again
returns-clause-again c = a_second_time

pub returns-clause-outline : goal.returns-clause-outline
returns-clause-outline c = outlines_have_ids

pub returns-clause-merged : goal.returns-clause-merged
returns-clause-merged c = merging_keeps_ids
