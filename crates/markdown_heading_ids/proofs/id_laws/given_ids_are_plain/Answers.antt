use Rattle.markdown_heading_ids.proofs.PlainIdsLemmas.{given_ids_are_of_words, given_ids_are_plain}
use Rattle.markdown_heading_ids.proofs.PlainIdsLemmas.{no_given_id_is_empty}
use Rattle.markdown_heading_ids.proofs.id_laws.given_ids_are_plain.Goals as goal

pub returns-clause-of_words : goal.returns-clause-of_words
returns-clause-of_words c = given_ids_are_of_words

pub returns-clause-plain : goal.returns-clause-plain
returns-clause-plain c = given_ids_are_plain

pub returns-clause-not_empty : goal.returns-clause-not_empty
returns-clause-not_empty c = no_given_id_is_empty
