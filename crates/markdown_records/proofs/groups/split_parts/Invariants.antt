-- The records so far are parts.
use Rattle.std.proofs.Common.{length}
use Rattle.markdown_records.proofs.GroupLemmas.{Parted}
use Rattle.markdown_records.proofs.groups.split_parts.Given as goal

abbrev pub invariant-parts : goal.invariant-parts
invariant-parts l = Parted l.bytes l.left l.end

abbrev pub decreases-parts : goal.decreases-parts
decreases-parts l = length l.left
