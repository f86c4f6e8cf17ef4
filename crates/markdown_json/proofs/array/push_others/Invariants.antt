-- The old text is followed by the values so far.
use Rattle.std.specs.String.{string_bytes}
use Rattle.markdown_out.proofs.ByteListsLemmas.{StandsTo}
use Rattle.markdown_json.specs.Json.{after_comma}
use Rattle.markdown_json.proofs.array.push_others.Given as goal

abbrev pub invariant-loop-value : goal.invariant-loop-value
invariant-loop-value g l = StandsTo (after_comma g.T.Value.json) (string_bytes l.s) (string_bytes l.initial.s) l.values
    l.value-index
