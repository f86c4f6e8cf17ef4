-- The slice that waits begins between two characters, and what was written goes up to it.
use Rattle.std.proofs.Common.{◌≤◌, ◌-◌, length}
use Rattle.std.specs.String.{string_bytes}
use Rattle.std.specs.Str.{IsCharBoundary}
use Rattle.markdown_out.specs.Escaped.{escaped_byte}
use Rattle.markdown_out.proofs.EscapesLemmas.{Copied}
use Rattle.markdown_out.proofs.escape.push_escaped.Given as goal

abbrev pub invariant-text : goal.invariant-text
invariant-text l = record {
  order : l.from ≤ l.at;
  within : l.at ≤ length l.text;
  cut : IsCharBoundary l.text l.from;
  copied : Copied (escaped_byte l.fn.escape) (string_bytes l.out) (string_bytes l.initial.out)
      l.text l.from l.at;
}

abbrev pub decreases-text : goal.decreases-text
decreases-text l = length l.text - l.at
