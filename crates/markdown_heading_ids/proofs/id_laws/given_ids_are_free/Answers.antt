use Rattle.markdown_heading_ids.proofs.FreeIdLemmas.{free_anchor, free_is_free, free_some}
use Rattle.markdown_heading_ids.proofs.id_laws.given_ids_are_free.Goals as goal

pub returns-clause-free : goal.returns-clause-free
returns-clause-free c = free_is_free

pub returns-clause-not_empty : goal.returns-clause-not_empty
returns-clause-not_empty c = free_some

pub returns-clause-anchor : goal.returns-clause-anchor
returns-clause-anchor c = free_anchor
