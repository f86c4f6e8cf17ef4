-- What the bytes that are left decide.
use Rattle.std.proofs.Common.{◌-◌, ◌≡◌}
use Rattle.markdown_autolinks.specs.AddressBytes.{has_late_underscore}
use Rattle.markdown_autolinks.proofs.host.has_late_underscore.Given as goal

-- the bytes that are left decide
abbrev pub invariant-loop-left : goal.invariant-loop-left
invariant-loop-left l =
    has_late_underscore l.text l.at 1 (l.end - l.at) ≡ has_late_underscore l.text l.at l.more (l.left - l.at)

abbrev pub decreases-loop-left : goal.decreases-loop-left
decreases-loop-left l = l.left - l.at
