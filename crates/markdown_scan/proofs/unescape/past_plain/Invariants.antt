-- No byte so far passes the test.
use Rattle.std.proofs.Common.{◌-◌, length}
use Rattle.markdown_scan.specs.Together.{may_begin_reference, IsPast}
use Rattle.markdown_scan.proofs.unescape.past_plain.Given as goal

abbrev pub invariant-plain : goal.invariant-plain
invariant-plain l = IsPast may_begin_reference l.bytes l.start

abbrev pub decreases-plain : goal.decreases-plain
decreases-plain l = length l.bytes - l.start
