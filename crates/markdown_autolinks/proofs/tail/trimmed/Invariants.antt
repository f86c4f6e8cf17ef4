-- What is left, and its parentheses.
use Rattle.std.proofs.Common.{◌-◌}
use Rattle.markdown_autolinks.proofs.TailLemmas.{IsTrimming}
use Rattle.markdown_autolinks.proofs.tail.trimmed.Given as goal

-- what is left is to be trimmed on, and its parentheses are counted
abbrev pub invariant-loop-left : goal.invariant-loop-left
invariant-loop-left l = IsTrimming l.text l.start l.end l.left l.opening l.closing

abbrev pub decreases-loop-left : goal.decreases-loop-left
decreases-loop-left l = l.left - l.start
