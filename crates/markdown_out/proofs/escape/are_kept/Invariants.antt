-- All bytes so far are kept.
use Rattle.std.proofs.Common.{◌≡◌, ◌-◌, ◌≤◌, true, length, take}
use Rattle.std.specs.List.{list_all}
use Rattle.markdown_out.specs.Escapes.{is_kept_byte}
use Rattle.markdown_out.proofs.escape.are_kept.Given as goal

abbrev pub invariant-kept : goal.invariant-kept
invariant-kept l = record {
  within : l.start ≤ length l.bytes;
  kept : list_all is_kept_byte (take l.start l.bytes) ≡ true;
}

abbrev pub decreases-kept : goal.decreases-kept
decreases-kept l = length l.bytes - l.start
