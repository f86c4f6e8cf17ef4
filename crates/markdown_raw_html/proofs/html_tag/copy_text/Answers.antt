use Rattle.std.proofs.Common.{◌<◌, ◌≡◌, ◌+◌, ◌++◌, ◌∷◌, [], length, arith, ap, ◌∙◌}
use Rattle.std.proofs.lemmas.List.{length_push}
use Rattle.markdown_raw_html.proofs.TagSourceLemmas.{copied_more, none_left, one_more}
use Rattle.markdown_raw_html.proofs.html_tag.copy_text.Goals as goal

pub returns-in_default : goal.returns-in_default
returns-in_default g c =
    let skipped = g.R.LineRule.skipped c.args.rule.now in
    let ended = none_left skipped c.args.source.now c.bytes.left.now (length c.bytes.made.items)
    c.bytes.invariant.left c.in_default.ensures.value in
    let fewer : length c.bytes.made.items < c.args.count = omega (arith, c.bytes.made.ok.0) in
    absurd (omega (arith, ended, fewer))

pub bytes-preserved : goal.bytes-preserved
bytes-preserved g c =
    let skipped = g.R.LineRule.skipped c.args.rule.now in
    let made = c.bytes.made.items in
    let pushed : c.push.new.self.items ≡ made ++ c.in-Some.byte ∷ [] = c.in_ok-push.ensures.items in
    let count : length c.push.new.self.items ≡ length made + 1 =
    ap length pushed ∙ length_push made c.in-Some.byte in
    let fewer : length made < c.args.count = omega (arith, c.bytes.made.ok.0) in
    record {
      left = rw count (one_more skipped c.args.source.now c.bytes.left.now (length made)
          c.in-Some.byte c.in-Some.tail.now c.bytes.invariant.left c.in-Some.ensures.value);
      made = rw count (pushed ∙ copied_more skipped c.args.source.now c.bytes.left.now made
          (length made) c.in-Some.byte c.in-Some.tail.now c.bytes.invariant.left
          c.in-Some.ensures.value c.bytes.invariant.made (omega (arith, fewer)));
      most = omega (arith, count, fewer);
    }
