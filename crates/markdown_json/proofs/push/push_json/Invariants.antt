-- The items so far are events, and the old text is followed by their lines.
use Rattle.std.specs.String.{string_bytes}
use Rattle.markdown_json.proofs.JsonLinesLemmas.{Wrote}
use Rattle.markdown_json.proofs.push.push_json.Given as goal

abbrev pub invariant-loop-item : goal.invariant-loop-item
invariant-loop-item g l = Wrote (string_bytes l.initial.s) (string_bytes l.s) l.yielded
