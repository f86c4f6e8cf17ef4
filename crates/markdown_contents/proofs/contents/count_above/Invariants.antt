use Rattle.std.proofs.Common.{◌≡◌, ◌≤◌, length, reverse, take}
use Rattle.markdown_contents.specs.ContentsSoFar.{lower_from}
use Rattle.markdown_contents.proofs.contents.count_above.Given as goal

-- what was passed over going back is no lower
abbrev pub invariant-closed : goal.invariant-closed
invariant-closed l = record {
  within : l.above ≤ length l.open_levels;
  lower : lower_from l.level (reverse (take l.above l.open_levels)) ≡ lower_from l.level (reverse l.open_levels);
}

abbrev pub decreases-closed : goal.decreases-closed
decreases-closed l = l.above
