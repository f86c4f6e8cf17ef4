use Rattle.markdown_out.specs.EventRanges.{nowhere, through_ranges}
use Rattle.markdown_out.proofs.MergeLawsLemmas.{merged-twice}
use Rattle.markdown_out.proofs.laws.merging_twice_is_merging_once.Goals as goal

pub returns-clause-events : goal.returns-clause-events
returns-clause-events c items = merged-twice nowhere items

pub returns-clause-ranged : goal.returns-clause-ranged
returns-clause-ranged c items = merged-twice through_ranges items
