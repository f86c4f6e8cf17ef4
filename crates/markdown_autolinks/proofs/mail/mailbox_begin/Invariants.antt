-- The beginning is the one that is found before this place.
use Rattle.std.proofs.Common.{◌-◌, ◌≡◌, ◌≤◌}
use Rattle.markdown_autolinks.specs.AddressBytes.{byte_at, is_mailbox_byte, passing_from}
use Rattle.markdown_autolinks.specs.Addresses.{mailbox_begin}
use Rattle.markdown_autolinks.proofs.mail.mailbox_begin.Given as goal

-- the beginning is the one that is found before this place
abbrev pub invariant-loop-begin : goal.invariant-loop-begin
invariant-loop-begin l =
    (mailbox_begin l.text l.used l.at
    ≡ passing_from (λ i. is_mailbox_byte (byte_at l.text i)) l.begin (l.begin - l.used)) × (l.begin ≤ l.at)

abbrev pub decreases-loop-begin : goal.decreases-loop-begin
decreases-loop-begin l = l.begin - l.used
