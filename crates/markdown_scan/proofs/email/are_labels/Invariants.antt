-- The bytes that are left are labels exactly where all are.
use Rattle.std.proofs.Common.{◌≡◌, length}
use Rattle.markdown_scan.specs.EmailAutolink.{are_labels}
use Rattle.markdown_scan.proofs.email.are_labels.Given as goal

abbrev pub invariant-loop-rest : goal.invariant-loop-rest
invariant-loop-rest l = are_labels l.domain ≡ are_labels l.rest

abbrev pub decreases-loop-rest : goal.decreases-loop-rest
decreases-loop-rest l = length l.rest
