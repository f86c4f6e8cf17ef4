-- What comes after the bytes of the kind from here on is what comes after them all.
use Rattle.std.proofs.Common.{◌≡◌, length}
use Rattle.markdown_raw_html.specs.ByteKinds.{in_kind}
use Rattle.markdown_raw_html.specs.HtmlTag.{all}
use Rattle.markdown_raw_html.specs.TagSteps.{after_part}
use Rattle.markdown_raw_html.proofs.tag_text.take_all.Given as goal

abbrev pub invariant-loop-byte : goal.invariant-loop-byte
invariant-loop-byte g l =
    after_part (g.R.LineRule.skipped l.rule) (all (in_kind l.kind)) l.source
    ≡ after_part (g.R.LineRule.skipped l.rule) (all (in_kind l.kind)) l.rest

abbrev pub decreases-loop-byte : goal.decreases-loop-byte
decreases-loop-byte g l = length l.rest
