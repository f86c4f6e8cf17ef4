-- The old text is followed by the lines so far.
use Rattle.std.specs.String.{string_bytes}
use Rattle.markdown_out.proofs.ByteListsLemmas.{StandsTo}
use Rattle.markdown_positions.specs.PositionsOf.{positions_text}
use Rattle.markdown_lint_json.proofs.LintJsonLemmas.{line_of_entry_in}
use Rattle.markdown_lint_json.proofs.outline.push_outline_with_places.Given as goal

abbrev pub invariant-loop-entry : goal.invariant-loop-entry
invariant-loop-entry l =
    StandsTo (line_of_entry_in (positions_text l.positions) l.with_ids) (string_bytes l.s) (string_bytes l.initial.s)
    l.entries l.entry-index
