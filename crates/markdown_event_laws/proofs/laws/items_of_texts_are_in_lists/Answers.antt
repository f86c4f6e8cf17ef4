use Rattle.markdown_event_laws.proofs.WholeTablesLemmas.{items_of_readings, items_of_texts}
use Rattle.markdown_event_laws.proofs.laws.items_of_texts_are_in_lists.Goals as goal

pub returns-clause-readings : goal.returns-clause-readings
returns-clause-readings c = items_of_readings

pub returns-clause-texts : goal.returns-clause-texts
returns-clause-texts c = items_of_texts
