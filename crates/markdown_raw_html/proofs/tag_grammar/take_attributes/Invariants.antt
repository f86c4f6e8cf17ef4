-- What comes after the attributes from here on is what comes after them all.
use Rattle.std.proofs.Common.{◌≡◌, length}
use Rattle.markdown_raw_html.specs.HtmlTag.{attribute, often}
use Rattle.markdown_raw_html.specs.TagSteps.{after_part}
use Rattle.markdown_raw_html.proofs.tag_grammar.take_attributes.Given as goal

abbrev pub invariant-loop-tail : goal.invariant-loop-tail
invariant-loop-tail g l =
    after_part (g.R.LineRule.skipped l.rule) (often attribute) l.source
    ≡ after_part (g.R.LineRule.skipped l.rule) (often attribute) l.rest

abbrev pub decreases-loop-tail : goal.decreases-loop-tail
decreases-loop-tail g l = length l.rest
