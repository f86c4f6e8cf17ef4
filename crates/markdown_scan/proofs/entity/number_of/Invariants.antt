-- The number so far, and that it stays small.
use Rattle.std.proofs.Common.{◌≡◌, ◌+◌, ◌*◌, ◌^◌, ◌≤◌, take}
use Rattle.markdown_scan.specs.Entity.{digits_value}
use Rattle.markdown_scan.proofs.entity.number_of.Given as goal

abbrev pub invariant-loop-digit : goal.invariant-loop-digit
invariant-loop-digit l = record {
  value : l.number ≡ digits_value l.radix (take l.digit-index l.digits);
  small : l.number + 3 ≤ 3 * 16 ^ l.digit-index;
}
