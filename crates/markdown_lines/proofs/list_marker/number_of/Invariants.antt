-- The digits so far make a number with as many digits.
use Rattle.std.proofs.Common.{◌≡◌, ◌<◌, ◌≤◌, ◌^◌, true, take, length}
use Rattle.std.specs.Char.{is_ascii_digit}
use Rattle.std.specs.List.{list_all}
use Rattle.markdown_lines.specs.ListMarkers.{decimal}
use Rattle.markdown_lines.proofs.list_marker.number_of.Given as goal

abbrev pub invariant-loop-digit : goal.invariant-loop-digit
invariant-loop-digit l =
    length l.digits ≤ 9 → list_all is_ascii_digit l.digits ≡ true
    → (l.number ≡ decimal (take l.digit-index l.digits)) × (l.number < 10 ^ l.digit-index)
