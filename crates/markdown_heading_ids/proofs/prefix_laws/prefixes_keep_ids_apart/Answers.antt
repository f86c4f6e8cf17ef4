use Rattle.markdown_heading_ids.proofs.PrefixLawsLemmas.{no_id_has_both_prefixes, numbered_prefixes_are_apart}
use Rattle.markdown_heading_ids.proofs.PrefixLawsLemmas.{prefix_begins_ids, prefixed_ids_differ}
use Rattle.markdown_heading_ids.proofs.prefix_laws.prefixes_keep_ids_apart.Goals as goal

pub returns-clause-begins : goal.returns-clause-begins
returns-clause-begins c = prefix_begins_ids

pub returns-clause-differ : goal.returns-clause-differ
returns-clause-differ c = prefixed_ids_differ

pub returns-clause-apart : goal.returns-clause-apart
returns-clause-apart c = no_id_has_both_prefixes

pub returns-clause-numbered : goal.returns-clause-numbered
returns-clause-numbered c = numbered_prefixes_are_apart
