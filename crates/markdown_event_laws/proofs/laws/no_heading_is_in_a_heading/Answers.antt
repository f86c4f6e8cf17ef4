use Rattle.markdown_event_laws.proofs.WholeTablesLemmas.{headings_of_readings, headings_of_texts}
use Rattle.markdown_event_laws.proofs.laws.no_heading_is_in_a_heading.Goals as goal

pub returns-clause-readings : goal.returns-clause-readings
returns-clause-readings c = headings_of_readings

pub returns-clause-texts : goal.returns-clause-texts
returns-clause-texts c = headings_of_texts
