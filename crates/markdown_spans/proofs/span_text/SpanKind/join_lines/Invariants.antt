-- What was written, and then the rest with its lines joined.
use denote.Shadow.{shadow}
use denote.Text.{Utf8}
use Rattle.std.proofs.Common.{◌≡◌, ◌++◌, length}
use Rattle.std.specs.String.{string_bytes}
use Rattle.markdown_spans.specs.CodeText.{lines_joined}
use Rattle.markdown_spans.specs.PrefixView.{length_by}
use Rattle.markdown_spans.proofs.span_text.SpanKind.join_lines.Given as goal

abbrev pub invariant-loop-before : goal.invariant-loop-before
invariant-loop-before l = record {
  text : shadow (Utf8 l.rest);
  same : lines_joined l.self l.in_table (length_by l.prefix) l.text
      ≡ string_bytes l.made ++ lines_joined l.self l.in_table (length_by l.prefix) l.rest;
}

abbrev pub decreases-loop-before : goal.decreases-loop-before
decreases-loop-before l = length l.rest
