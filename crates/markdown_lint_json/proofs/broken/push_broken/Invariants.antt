-- The old text is followed by the lines so far.
use Rattle.std.specs.String.{string_bytes}
use Rattle.markdown_out.proofs.ByteListsLemmas.{StandsTo}
use Rattle.markdown_lint_json.proofs.BrokenLemmas.{line_of_broken}
use Rattle.markdown_lint_json.proofs.broken.push_broken.Given as goal

abbrev pub invariant-loop-link : goal.invariant-loop-link
invariant-loop-link l =
    StandsTo (line_of_broken l.text) (string_bytes l.s) (string_bytes l.initial.s) l.links l.link-index
