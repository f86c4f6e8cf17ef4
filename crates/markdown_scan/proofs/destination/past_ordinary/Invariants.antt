-- No byte so far passes the test.
use Rattle.std.proofs.Common.{◌-◌, length}
use Rattle.markdown_scan.specs.Together.{may_matter, IsPast}
use Rattle.markdown_scan.proofs.destination.past_ordinary.Given as goal

abbrev pub invariant-ordinary : goal.invariant-ordinary
invariant-ordinary l = IsPast may_matter l.bytes l.start

abbrev pub decreases-ordinary : goal.decreases-ordinary
decreases-ordinary l = length l.bytes - l.start
