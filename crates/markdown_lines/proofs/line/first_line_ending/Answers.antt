-- No byte of those looked at together ends the line, or the first that does is found among them.
use Rattle.std.proofs.Common.{◌+◌, ◌<◌, ◌≤◌, length, arith}
use Rattle.markdown_base.proofs.ByteListLemmas.{none_further}
use Rattle.markdown_lines.specs.Lines.{is_line_ending}
use Rattle.markdown_lines.proofs.LinesLemmas.{content_through, line_end_in}
use Rattle.markdown_lines.proofs.line.first_line_ending.Goals.{then-not-are_after_endings+else-before-lt-TOGETHER}
use Rattle.markdown_lines.proofs.line.first_line_ending.Goals.{else-not-are_after_endings}
use Rattle.markdown_lines.proofs.line.first_line_ending.Goals as goal

pub returns-then-before-lt-TOGETHER : goal.returns-then-before-lt-TOGETHER
returns-then-before-lt-TOGETHER c =
    let kept = c.content.invariant in
    let room = c.content-test.true in
    let low = kept.low in
    let high = kept.high in
    let found = c.if-before-lt-TOGETHER.true in
    line_end_in c.args.bytes.now c.args.from c.content.start (c.content.start + 16) c.length_before_ending-before.result
    low (omega arith) (omega (arith, room, high)) kept.content c.length_before_ending-before.ensures
    (λ _. omega (arith, found))

pub content-preserved : goal.content-preserved
content-preserved c =
    let kept = c.content.invariant in
    let room = c.content-test.true in
    let low = kept.low in
    let high = kept.high in
    let bytes = c.args.bytes.now in
    let start = c.content.start in
    let within : start + 16 ≤ length bytes = omega (arith, high, room) in
    record {
      low = omega (arith, low);
      high = within;
      content = elim c.if-not-are_after_endings.branch [
        | then-not-are_after_endings+else-before-lt-TOGETHER w ↦ λ p low high.
            let full = w.if-before-lt-TOGETHER.false in
            content_through bytes c.args.from start (start + 16) w.length_before_ending-before.result (omega arith)
            within
            kept.content w.length_before_ending-before.ensures p low (omega (arith, high, full))
        | else-not-are_after_endings w ↦ none_further is_line_ending bytes c.args.from start (start + 16) (omega arith)
            within
            kept.content (c.are_after_endings.ensures w.if-not-are_after_endings.false)
      ];
    }

pub returns : goal.returns
returns c =
    let kept = c.content.invariant in
    let low = kept.low in
    let high = kept.high in
    let bytes = c.args.bytes.now in
    line_end_in bytes c.args.from c.content.start (length bytes) c.length_before_ending.result low high (omega arith)
    kept.content c.length_before_ending.ensures
    (λ (h : c.content.start + c.length_before_ending.result < length bytes). omega (arith, h))
