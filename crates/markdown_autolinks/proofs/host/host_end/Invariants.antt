-- The end is the one that is found from here on.
use Rattle.std.proofs.Common.{length, ◌-◌, ◌≡◌}
use Rattle.markdown_autolinks.specs.AddressBytes.{first_failing, host_end, is_host_at}
use Rattle.markdown_autolinks.proofs.host.host_end.Given as goal

-- the end is the one that is found from here on
abbrev pub invariant-loop-end : goal.invariant-loop-end
invariant-loop-end l = host_end l.text l.at ≡ first_failing (is_host_at l.text) l.end (length l.text - l.end)

abbrev pub decreases-loop-end : goal.decreases-loop-end
decreases-loop-end l = length l.text - l.end
