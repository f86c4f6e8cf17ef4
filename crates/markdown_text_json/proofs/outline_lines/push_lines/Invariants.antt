-- The old text is followed by the lines so far.
use Rattle.std.specs.String.{string_bytes}
use Rattle.markdown_out.proofs.ByteListsLemmas.{StandsTo}
use Rattle.markdown_text_json.proofs.OutlineJsonLemmas.{line_of_entry}
use Rattle.markdown_text_json.proofs.outline_lines.push_lines.Given as goal

abbrev pub invariant-loop-entry : goal.invariant-loop-entry
invariant-loop-entry l =
    StandsTo (line_of_entry l.with_ids) (string_bytes l.s) (string_bytes l.initial.s) l.entries l.entry-index
