-- No byte so far is replaced.
use Rattle.std.proofs.Common.{◌-◌, length}
use Rattle.markdown_out.specs.Escaped.{IsBeforeReplaced}
use Rattle.markdown_out.proofs.escape.past_kept.Given as goal

abbrev pub invariant-kept : goal.invariant-kept
invariant-kept l = IsBeforeReplaced l.bytes l.from l.start

abbrev pub decreases-kept : goal.decreases-kept
decreases-kept l = length l.bytes - l.start
