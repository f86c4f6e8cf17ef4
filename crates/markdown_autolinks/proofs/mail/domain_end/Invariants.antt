-- The end is the one that is found from here on.
use Rattle.std.proofs.Common.{length, ◌-◌, ◌≡◌, ◌<◌}
use Rattle.markdown_autolinks.specs.AddressBytes.{first_failing, is_domain_at}
use Rattle.markdown_autolinks.specs.Addresses.{domain_end}
use Rattle.markdown_autolinks.proofs.mail.domain_end.Given as goal

-- the end is the one that is found from here on, which is after the `@`
abbrev pub invariant-loop-end : goal.invariant-loop-end
invariant-loop-end l =
    (domain_end l.text l.at ≡ first_failing (is_domain_at l.text) l.end (length l.text - l.end)) × (l.at < l.end)

abbrev pub decreases-loop-end : goal.decreases-loop-end
decreases-loop-end l = length l.text - l.end
