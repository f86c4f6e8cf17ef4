use Rattle.std.proofs.Common.{◌≤◌, Some, arith, ap, sym, ◌∙◌}
use Rattle.markdown_raw_html.proofs.HtmlTagLemmas.{source_after_shorter}
use Rattle.markdown_raw_html.proofs.TagSourceLemmas.{count_all, count_below, one_more, tag_is}
use Rattle.markdown_raw_html.proofs.html_tag.count_tag.Goals as goal

pub overflow_add-count : goal.overflow_add-count
overflow_add-count g c =
    let skipped = g.R.LineRule.skipped c.args.rule.now in
    let tag = tag_is skipped c.args.source.now c.args.rest.now c.requires in
    let most : c.bytes.count ≤ tag.0 = rw tag.1.is at c.bytes.invariant.most in
    let below = count_below skipped c.args.source.now c.args.rest.now c.bytes.left.now
    c.bytes.count tag.0 tag.1 c.bytes.invariant.left most c.bytes-test.true in
    omega (arith, below, source_after_shorter skipped tag.0 c.args.source.now tag.1.within)

pub bytes-preserved : goal.bytes-preserved
bytes-preserved g c =
    let skipped = g.R.LineRule.skipped c.args.rule.now in
    let tag = tag_is skipped c.args.source.now c.args.rest.now c.requires in
    let most : c.bytes.count ≤ tag.0 = rw tag.1.is at c.bytes.invariant.most in
    let below = count_below skipped c.args.source.now c.args.rest.now c.bytes.left.now
    c.bytes.count tag.0 tag.1 c.bytes.invariant.left most c.bytes-test.true in
    record {
      left = one_more skipped c.args.source.now c.bytes.left.now c.bytes.count
          c.in-Some.field-0-0 c.in-Some.tail.now c.bytes.invariant.left c.in-Some.ensures.value;
      most = rw tag.1.is (omega (arith, below));
    }

pub returns : goal.returns
returns g c =
    let skipped = g.R.LineRule.skipped c.args.rule.now in
    let tag = tag_is skipped c.args.source.now c.args.rest.now c.requires in
    let most : c.bytes.count ≤ tag.0 = rw tag.1.is at c.bytes.invariant.most in
    ap Some (count_all skipped c.args.source.now c.args.rest.now c.bytes.left.now c.bytes.count
    tag.0 tag.1 c.bytes.invariant.left most (omega arith)) ∙ sym tag.1.is
