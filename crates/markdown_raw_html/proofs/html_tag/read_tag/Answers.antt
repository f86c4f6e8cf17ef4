use Rattle.std.proofs.Common.{ap, arith, length, refl}
use Rattle.markdown_raw_html.proofs.HtmlTagLemmas.{source_after_shorter}
use Rattle.markdown_raw_html.proofs.TagSourceLemmas.{lengths_is, no_tag, tag_is}
use Rattle.markdown_raw_html.proofs.html_tag.read_tag.Goals as goal

pub returns-in_err-rest-clause-value : goal.returns-in_err-rest-clause-value
returns-in_err-rest-clause-value g c =
    let skipped = g.R.LineRule.skipped c.args.rule.now in
    rw (c.from_residual.ensures, no_tag skipped c.args.source.now c.in_err-rest.ensures) refl

pub overflow_sub-result : goal.overflow_sub-result
overflow_sub-result g c =
    let skipped = g.R.LineRule.skipped c.args.rule.now in
    let tag = tag_is skipped c.args.source.now c.in_ok-rest.rest.now c.in_ok-rest.ensures in
    omega (
      arith,
      ap length tag.1.left,
      source_after_shorter skipped tag.0 c.args.source.now tag.1.within,
    )

pub returns-clause-value : goal.returns-clause-value
returns-clause-value g c =
    lengths_is (g.R.LineRule.skipped c.args.rule.now) c.args.source.now c.in_ok-rest.rest.now
    c.count_tag.result c.in_ok-rest.ensures c.count_tag.ensures
