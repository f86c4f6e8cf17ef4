use Rattle.std.proofs.Common.{sym, ◌∙◌}
use Rattle.markdown_raw_html.specs.ByteKinds.{in_kind}
use Rattle.markdown_raw_html.proofs.TagTextLemmas.{after_all_no, after_all_none, after_all_yes}
use Rattle.markdown_raw_html.proofs.tag_text.take_all.Goals as goal

pub returns-then-not-is_in_kind : goal.returns-then-not-is_in_kind
returns-then-not-is_in_kind g c =
    after_all_no (g.R.LineRule.skipped c.args.rule.now) (in_kind c.args.kind)
    c.loop-byte.rest.now c.in-Some.byte c.in-Some.tail.now c.in-Some.ensures.value
    (sym c.is_in_kind.ensures ∙ c.if-not-is_in_kind.true) ∙ sym c.loop-byte.invariant

pub loop-byte-preserved : goal.loop-byte-preserved
loop-byte-preserved g c =
    c.loop-byte.invariant ∙ after_all_yes (g.R.LineRule.skipped c.args.rule.now)
    (in_kind c.args.kind) c.loop-byte.rest.now c.in-Some.byte c.in-Some.tail.now
    c.in-Some.ensures.value (sym c.is_in_kind.ensures ∙ c.if-not-is_in_kind.false)

pub returns : goal.returns
returns g c =
    after_all_none (g.R.LineRule.skipped c.args.rule.now) (in_kind c.args.kind)
    c.loop-byte.rest.now c.in_default.ensures.value ∙ sym c.loop-byte.invariant
