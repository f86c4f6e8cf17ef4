use Rattle.std.proofs.Common.{sym, ◌∙◌}
use Rattle.markdown_raw_html.specs.ByteKinds.{in_kind}
use Rattle.markdown_raw_html.proofs.TagTextLemmas.{after_one_no, after_one_none, after_one_yes}
use Rattle.markdown_raw_html.proofs.tag_text.take_one.Goals as goal

pub returns-in_err-byte : goal.returns-in_err-byte
returns-in_err-byte g c =
    rw (c.from_residual.ensures) (after_one_none (g.R.LineRule.skipped c.args.rule.now)
    (in_kind c.args.kind) c.args.source.now c.in_err-byte.ensures.value)

pub returns-then-is_in_kind : goal.returns-then-is_in_kind
returns-then-is_in_kind g c =
    after_one_yes (g.R.LineRule.skipped c.args.rule.now) (in_kind c.args.kind)
    c.args.source.now c.in_ok-byte.byte c.in_ok-byte.rest.now c.in_ok-byte.ensures.value
    (sym c.is_in_kind.ensures ∙ c.if-is_in_kind.true)

pub returns-else-is_in_kind : goal.returns-else-is_in_kind
returns-else-is_in_kind g c =
    after_one_no (g.R.LineRule.skipped c.args.rule.now) (in_kind c.args.kind)
    c.args.source.now c.in_ok-byte.byte c.in_ok-byte.rest.now c.in_ok-byte.ensures.value
    (sym c.is_in_kind.ensures ∙ c.if-is_in_kind.false)
