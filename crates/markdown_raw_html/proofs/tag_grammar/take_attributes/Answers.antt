use Rattle.std.proofs.Common.{sym, ◌∙◌}
use Rattle.markdown_raw_html.specs.HtmlTag.{attribute}
use Rattle.markdown_raw_html.proofs.HtmlTagLemmas.{IsSome-attribute, IsWithin-attribute}
use Rattle.markdown_raw_html.proofs.HtmlTagLemmas.{after_often_more, after_often_none, rest_shorter}
use Rattle.markdown_raw_html.proofs.tag_grammar.take_attributes.Goals as goal

pub loop-tail-smaller : goal.loop-tail-smaller
loop-tail-smaller g c =
    rest_shorter (g.R.LineRule.skipped c.args.rule.now) attribute c.loop-tail.rest.now
    c.in-Some.tail.now IsWithin-attribute IsSome-attribute c.in-Some.ensures

pub loop-tail-preserved : goal.loop-tail-preserved
loop-tail-preserved g c =
    c.loop-tail.invariant ∙ after_often_more (g.R.LineRule.skipped c.args.rule.now) attribute
    c.loop-tail.rest.now c.in-Some.tail.now IsWithin-attribute IsSome-attribute c.in-Some.ensures

pub returns : goal.returns
returns g c =
    after_often_none (g.R.LineRule.skipped c.args.rule.now) attribute c.loop-tail.rest.now
    c.in_default.ensures ∙ sym c.loop-tail.invariant
