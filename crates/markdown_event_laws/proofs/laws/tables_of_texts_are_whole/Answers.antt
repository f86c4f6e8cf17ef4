use Rattle.markdown_event_laws.proofs.WholeTablesLemmas.{whole_readings, whole_texts}
use Rattle.markdown_event_laws.proofs.laws.tables_of_texts_are_whole.Goals as goal

pub returns-clause-readings : goal.returns-clause-readings
returns-clause-readings c = whole_readings

pub returns-clause-texts : goal.returns-clause-texts
returns-clause-texts c = whole_texts
