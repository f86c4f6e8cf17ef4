-- The bytes so far are the given one.
use Rattle.std.proofs.Common.{◌≡◌, ◌+◌, drop}
use Rattle.std.specs.Prelude.{◌==◌}
use Rattle.std.specs.List.{prefix_len}
use Rattle.markdown_lines.proofs.bytes.run_length.Given as goal

abbrev pub invariant-loop-at : goal.invariant-loop-at
invariant-loop-at l = prefix_len (λ b. b == l.byte) l.bytes ≡ l.at + prefix_len (λ b. b == l.byte) (drop l.at l.bytes)
