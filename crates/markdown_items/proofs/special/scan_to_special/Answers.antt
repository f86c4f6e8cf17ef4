-- No byte of those looked at together is special, or the first that is is found among them.
use Rattle.std.proofs.Common.{◌≡◌, ◌+◌, ◌<◌, ◌≤◌, length, arith}
use Rattle.std.specs.Prelude.{min}
use Rattle.markdown_base.proofs.ByteListLemmas.{none_further, part_length}
use Rattle.markdown_items.specs.LineItems.{is_special}
use Rattle.markdown_items.proofs.SpecialLemmas.{plain_through, first_special_in}
use Rattle.markdown_items.proofs.special.scan_to_special.Goals.{then-not-are_plain+else-before-lt-TOGETHER}
use Rattle.markdown_items.proofs.special.scan_to_special.Goals.{else-not-are_plain}
use Rattle.markdown_items.proofs.special.scan_to_special.Goals as goal

pub plain-preserved : goal.plain-preserved
plain-preserved c =
    let kept = c.plain.invariant in
    let low = kept.low in
    let high = kept.high in
    let bytes = c.args.bytes.now in
    let dashes = c.args.dashes in
    let start = c.plain.start in
    let within : start + 16 ≤ length bytes =
    omega (arith, c.plain-test.true, c.min-last.ensures, c.saturating_sub.ensures) in
    record {
      low = omega (arith, low);
      high = within;
      plain = elim c.if-not-are_plain.branch [
        | then-not-are_plain+else-before-lt-TOGETHER w ↦ λ p low high.
            let full = w.if-before-lt-TOGETHER.false in
            plain_through dashes bytes c.args.from start (start + 16)
            w.length_before_special-before.result (omega arith) within kept.plain
            w.length_before_special-before.ensures p low (omega (arith, high, full))
        | else-not-are_plain w ↦ none_further (is_special dashes) bytes c.args.from start (start + 16) (omega arith)
            within kept.plain (c.are_plain.ensures w.if-not-are_plain.false)
      ];
    }

pub returns-then-before-lt-TOGETHER : goal.returns-then-before-lt-TOGETHER
returns-then-before-lt-TOGETHER c =
    let kept = c.plain.invariant in
    let low = kept.low in
    let ahead : c.plain.start < c.min-last.result = c.plain-test.true in
    let least = c.min-last.ensures in
    let room : c.plain.start + 16 ≤ length c.args.bytes.now = omega (arith, ahead, least, c.saturating_sub.ensures) in
    let found = c.if-before-lt-TOGETHER.true in
    first_special_in c.args.dashes c.args.bytes.now c.args.from c.args.end c.plain.start (c.plain.start + 16)
    c.length_before_special-before.result c.min.result low (omega arith) room
    (omega (arith, ahead, least)) kept.plain c.length_before_special-before.ensures (λ _. omega (arith, found))
    c.min.ensures

pub returns-then-start-end : goal.returns-then-start-end
returns-then-start-end c =
    let kept = c.plain.invariant in
    let low = kept.low in
    let before = c.length_before_special.result in
    let some = c.if-start-end.true in
    let first = c.length_before_special.ensures in
    let few = first.high in
    let bytes = c.args.bytes.now in
    let start = c.plain.start in
    let within = c.requires.within in
    let least : start + before ≡ min c.args.end (start + before) =
    omega (arith, few, part_length bytes start c.args.end within, some) in
    first_special_in c.args.dashes bytes c.args.from c.args.end start c.args.end before (start + before) low
    (omega (arith, some)) within
    (omega (arith, some)) kept.plain first (λ (h : start + before < c.args.end). omega (arith, h)) least
