-- The slice that waits begins between two characters, and what was written goes up to it.
use Rattle.std.proofs.Common.{◌≤◌}
use Rattle.std.specs.String.{string_bytes}
use Rattle.std.specs.Str.{IsCharBoundary}
use Rattle.markdown_out.proofs.EscapesLemmas.{Copied}
use Rattle.markdown_json.specs.Json.{string_byte}
use Rattle.markdown_json.proofs.escape.push_escaped.Given as goal

abbrev pub invariant-loop-i : goal.invariant-loop-i
invariant-loop-i l = record {
  order : l.from ≤ l.i;
  cut : IsCharBoundary l.text l.from;
  copied : Copied string_byte (string_bytes l.out) (string_bytes l.initial.out) l.text l.from l.i;
}
