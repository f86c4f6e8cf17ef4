-- One more blank byte is passed over.
use Rattle.std.proofs.Common.{◌≡◌, true, get_or, sym, ◌∙◌}
use Rattle.markdown_lines.specs.Lines.{is_in_blank_line}
use Rattle.markdown_lines.proofs.LinesLemmas.{AllPass-more, past_ascii, blank_ascii}
use Rattle.markdown_lines.proofs.line.next_content.Goals as goal

pub loop-i-preserved : goal.loop-i-preserved
loop-i-preserved c =
    let text = c.args.text.now in
    let here : is_in_blank_line (get_or text c.loop-i.i 0) ≡ true = rw c.as_bytes-bytes.ensures.value at
    (sym c.is_in_blank_line.ensures ∙ c.if-not-is_in_blank_line.false) in
    record {
      boundary = past_ascii text c.loop-i.i c.utf8.text (rw c.as_bytes-bytes.ensures.value at c.loop-i-test.true)
          (blank_ascii (get_or text c.loop-i.i 0) here);
      passes = AllPass-more is_in_blank_line text c.args.from c.loop-i.i c.loop-i.invariant.passes here;
    }
