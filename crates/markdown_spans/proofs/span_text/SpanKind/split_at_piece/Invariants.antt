-- The bytes so far are kept unchanged.
use Rattle.std.proofs.Common.{◌≡◌, ◌++◌, take, drop}
use Rattle.markdown_spans.specs.CodeText.{is_sliced, lines_joined}
use Rattle.markdown_spans.specs.PrefixView.{length_by}
use Rattle.markdown_spans.proofs.span_text.SpanKind.split_at_piece.Given as goal

abbrev pub invariant-loop-at : goal.invariant-loop-at
invariant-loop-at l =
    (lines_joined l.self l.in_table (length_by l.prefix) l.text
    ≡ take l.at l.text ++ lines_joined l.self l.in_table (length_by l.prefix) (drop l.at l.text))
    × (is_sliced l.in_table l.text ≡ is_sliced l.in_table (drop l.at l.text))
