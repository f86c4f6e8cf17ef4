-- A part comes to the others, or the parts are at their end.
use Rattle.markdown_records.proofs.GroupLemmas.{none_parted, one_parted}
use Rattle.markdown_records.proofs.groups.split_parts.Goals as goal

pub parts-init : goal.parts-init
parts-init c = none_parted _

pub parts-preserved : goal.parts-preserved
parts-preserved c = one_parted c.parts.invariant c.in-Some.ensures c.if-record-ge-FIRST_PART.true
