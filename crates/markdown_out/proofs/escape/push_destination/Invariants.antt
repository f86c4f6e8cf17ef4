-- The slice that waits is of kept bytes, and what was written goes up to it.
use Rattle.std.proofs.Common.{◌≤◌}
use Rattle.std.specs.String.{string_bytes}
use Rattle.markdown_out.specs.Escapes.{destination_byte}
use Rattle.markdown_out.proofs.EscapesLemmas.{Copied, Cuts}
use Rattle.markdown_out.proofs.escape.push_destination.Given as goal

abbrev pub invariant-loop-i : goal.invariant-loop-i
invariant-loop-i l = record {
  order : l.from ≤ l.i;
  cuts : Cuts l.destination l.from l.i;
  copied : Copied destination_byte (string_bytes l.out) (string_bytes l.initial.out) l.destination
      l.from l.i;
}
