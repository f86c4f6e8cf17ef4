-- The beginning is the one that is found before this place.
use Rattle.std.proofs.Common.{◌-◌, ◌≡◌, ◌≤◌}
use Rattle.std.specs.Char.{is_ascii_alphabetic}
use Rattle.markdown_autolinks.specs.AddressBytes.{byte_at, passing_from}
use Rattle.markdown_autolinks.proofs.tail.letters_before.Given as goal

-- the beginning is the one that is found before this place
abbrev pub invariant-loop-at : goal.invariant-loop-at
invariant-loop-at l =
    (passing_from (λ at. is_ascii_alphabetic (byte_at l.text at)) l.end (l.end - l.start)
    ≡ passing_from (λ at. is_ascii_alphabetic (byte_at l.text at)) l.at (l.at - l.start)) × (l.at ≤ l.end)

abbrev pub decreases-loop-at : goal.decreases-loop-at
decreases-loop-at l = l.at - l.start
