-- The end is the one that is found from here on.
use Rattle.std.proofs.Common.{length, ◌-◌, ◌≡◌}
use Rattle.markdown_autolinks.specs.AddressBytes.{first_failing, goes_on_at}
use Rattle.markdown_autolinks.proofs.tail.word_end.Given as goal

-- the end is the one that is found from here on
abbrev pub invariant-loop-end : goal.invariant-loop-end
invariant-loop-end l = first_failing (goes_on_at l.text) l.at (length l.text - l.at)
    ≡ first_failing (goes_on_at l.text) l.end (length l.text - l.end)

abbrev pub decreases-loop-end : goal.decreases-loop-end
decreases-loop-end l = length l.text - l.end
