-- The bytes so far were copied.
use Rattle.std.proofs.Common.{◌≡◌, ◌≤◌, ◌-◌, length, take}
use Rattle.markdown_raw_html.specs.TagText.{source_after, text_in}
use Rattle.markdown_raw_html.proofs.html_tag.copy_text.Given as goal

abbrev pub invariant-bytes : goal.invariant-bytes
invariant-bytes g l = record {
  left : l.left ≡ source_after (g.R.LineRule.skipped l.rule) (length l.made.items) l.source;
  made : l.made.items
      ≡ take (length l.made.items) (text_in (g.R.LineRule.skipped l.rule) l.source);
  most : length l.made.items ≤ l.count;
}

abbrev pub decreases-bytes : goal.decreases-bytes
decreases-bytes g l = l.count - length l.made.items
