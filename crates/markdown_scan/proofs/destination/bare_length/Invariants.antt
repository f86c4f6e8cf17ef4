use Rattle.std.proofs.Common.{◌≡◌, ◌≤◌, ◌+◌, length, drop, false}
use Rattle.std.specs.Option.{option_map}
use Rattle.markdown_scan.specs.Destination.{bare_length}
use Rattle.markdown_scan.proofs.destination.bare_length.Given as goal

-- the rest begins at the byte `at`, and the length of the whole is that of the rest and the `at` bytes before it
abbrev pub invariant-loop-first : goal.invariant-loop-first
invariant-loop-first l = record {
  sum : l.at + length l.rest ≡ length l.bytes;
  here : l.rest ≡ drop l.at l.bytes;
  few : l.opened ≤ l.at;
  value : bare_length l.max_nesting false 0 l.bytes
      ≡ option_map (λ n. l.at + n) (bare_length l.max_nesting l.escaped l.opened l.rest);
}

abbrev pub decreases-loop-first : goal.decreases-loop-first
decreases-loop-first l = length l.rest
