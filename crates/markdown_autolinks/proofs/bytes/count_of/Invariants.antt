-- What is counted so far.
use Rattle.std.proofs.Common.{◌-◌, ◌≡◌, ◌≤◌}
use Rattle.markdown_autolinks.specs.AddressBytes.{count_of}
use Rattle.markdown_autolinks.proofs.bytes.count_of.Given as goal

-- the count is that of the bytes before the place, which are no more than all
abbrev pub invariant-loop-at : goal.invariant-loop-at
invariant-loop-at l =
    (l.count ≡ count_of l.text l.byte l.start (l.at - l.start)) × (l.start ≤ l.at)
    × (l.at - l.start ≤ l.end - l.start)

abbrev pub decreases-loop-at : goal.decreases-loop-at
decreases-loop-at l = l.end - l.at
