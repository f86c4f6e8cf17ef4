-- The items so far are events, and the old text is followed by their bytes.
use Rattle.std.specs.String.{string_bytes}
use Rattle.markdown_out.specs.Writer.{view}
use Rattle.markdown_out.proofs.HtmlCorrectLemmas.{Wrote}
use Rattle.markdown_out.proofs.html.push.push_html_by.Given as goal

abbrev pub invariant-loop-item : goal.invariant-loop-item
invariant-loop-item g l = Wrote l.fn.rules (view l.writer) (string_bytes l.initial.s) (string_bytes l.s)
    l.yielded
