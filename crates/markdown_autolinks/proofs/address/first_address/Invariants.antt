-- The first address is the one that is found from here on.
use Rattle.std.proofs.Common.{length, ◌-◌, ◌≡◌}
use Rattle.markdown_autolinks.specs.Addresses.{first_address, first_address_from}
use Rattle.markdown_autolinks.proofs.address.first_address.Given as goal

-- the first address is the one that is found from here on
abbrev pub invariant-loop-at : goal.invariant-loop-at
invariant-loop-at l = first_address l.text l.used ≡ first_address_from l.text l.used l.at (length l.text - l.at)

abbrev pub decreases-loop-at : goal.decreases-loop-at
decreases-loop-at l = length l.text - l.at
