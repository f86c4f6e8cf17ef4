use Rattle.markdown_event_laws.proofs.WholeTablesLemmas.{alone_readings, alone_texts}
use Rattle.markdown_event_laws.proofs.laws.only_parts_stand_in_tables.Goals as goal

pub returns-clause-readings : goal.returns-clause-readings
returns-clause-readings c = alone_readings

pub returns-clause-texts : goal.returns-clause-texts
returns-clause-texts c = alone_texts
