use Rattle.markdown_out.specs.EventRanges.{nowhere, through_ranges}
use Rattle.markdown_out.proofs.MergeLawsLemmas.{merged-apart}
use Rattle.markdown_out.proofs.laws.merged_texts_are_no_neighbours.Goals as goal

pub returns-clause-events : goal.returns-clause-events
returns-clause-events c items = merged-apart nowhere items

pub returns-clause-ranged : goal.returns-clause-ranged
returns-clause-ranged c items = merged-apart through_ranges items
