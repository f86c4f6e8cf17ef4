-- `count` bytes of the text were passed, no more than the tag has.
use Rattle.std.proofs.Common.{◌≡◌, ◌≤◌, length, unwrap_or}
use Rattle.markdown_raw_html.specs.HtmlTag.{html_tag}
use Rattle.markdown_raw_html.specs.TagText.{source_after, text_in}
use Rattle.markdown_raw_html.proofs.html_tag.count_tag.Given as goal

abbrev pub invariant-bytes : goal.invariant-bytes
invariant-bytes g l = record {
  left : l.left ≡ source_after (g.R.LineRule.skipped l.rule) l.count l.source;
  most : l.count ≤ unwrap_or (html_tag (text_in (g.R.LineRule.skipped l.rule) l.source)) 0;
}

abbrev pub decreases-bytes : goal.decreases-bytes
decreases-bytes g l = length l.left
