use Rattle.markdown_event_laws.proofs.NestedTextsLemmas.{nested_readings, nested_texts}
use Rattle.markdown_event_laws.proofs.laws.events_of_texts_are_nested.Goals as goal

pub returns-clause-readings : goal.returns-clause-readings
returns-clause-readings c = nested_readings

pub returns-clause-texts : goal.returns-clause-texts
returns-clause-texts c = nested_texts
