-- The end decides on the label. The closing bracket is ASCII: the text may be cut after it.
use Rattle.std.proofs.Common.{◌<◌, ◌≡◌, ◌-◌, ◌+◌, ◌∙◌, ap, sym, arith, get_or, take, false}
use Rattle.std.proofs.Math.Nat.{sub-zero}
use Rattle.std.proofs.lemmas.Str.{IsCharBoundary-after_ascii}
use Rattle.markdown_scan.specs.LabelScan.{found_in}
use Rattle.markdown_scan.proofs.LabelWholeLemmas.{label_differs, label_read, label_there, no_label}
use Rattle.markdown_scan.proofs.LabelWholeLemmas.{source_before_end, take_again}
use Rattle.markdown_base.specs.CowText.{text_of}
use Rattle.markdown_scan.proofs.label.scan_link_label.Goals as goal

pub label_text-requires : goal.label_text-requires
label_text-requires g c =
    let found = rw c.as_bytes.ensures.value at c.in-Some.ensures.value in
    rw (c.range.ensures.value, sub-zero) (source_before_end c.in-Some.end c.args.text.now
    (found_in (g.R.LineRule.skipped c.args.rule.now) c.args.in_table false c.args.text.now) found)

pub returns-clause-boundary : goal.returns-clause-boundary
returns-clause-boundary g c =
    let here = rw c.as_bytes.ensures.value at c.in-Some.ensures.here in
    let ascii : get_or c.args.text.now c.in-Some.end 0 < 128 = omega (arith, here.1) in
    IsCharBoundary-after_ascii c.args.text.now c.in-Some.end c.utf8.text here.0 ascii

pub returns-in_default-clause-value : goal.returns-in_default-clause-value
returns-in_default-clause-value g c =
    no_label (found_in (g.R.LineRule.skipped c.args.rule.now) c.args.in_table false c.args.text.now)
    (rw c.as_bytes.ensures.value at c.in_default.ensures.value)

pub returns-in_err-label-clause-unchanged : goal.returns-in_err-label-clause-unchanged
returns-in_err-label-clause-unchanged g c =
    let found = found_in (g.R.LineRule.skipped c.args.rule.now) c.args.in_table false c.args.text.now in
    λ n is. absurd (label_differs c.in-Some.end n c.args.text.now found
    (rw c.as_bytes.ensures.value at c.in-Some.ensures.value)
    (rw (c.range.ensures.value, sub-zero) at c.in_err-label.ensures.differs) is)

pub returns-in_err-label-clause-refused : goal.returns-in_err-label-clause-refused
returns-in_err-label-clause-refused g c =
    let found = found_in (g.R.LineRule.skipped c.args.rule.now) c.args.in_table false c.args.text.now in
    λ none. absurd (label_there c.in-Some.end found (rw c.as_bytes.ensures.value at c.in-Some.ensures.value) none)

pub returns-clause-value : goal.returns-clause-value
returns-clause-value g c =
    label_read c.in-Some.end (text_of c.in_ok-label.label)
    (found_in (g.R.LineRule.skipped c.args.rule.now) c.args.in_table false c.args.text.now)
    (rw c.as_bytes.ensures.value at c.in-Some.ensures.value) c.in_ok-label.ensures.value

pub returns-clause-borrowed : goal.returns-clause-borrowed
returns-clause-borrowed g c =
    let end = c.in-Some.end in
    let text = c.args.text.now in
    let one : end + 1 - 1 ≡ end = omega arith in
    let borrowed = rw (c.range.ensures.value, sub-zero) at c.in_ok-label.ensures.borrowed in
    λ same. borrowed end (same ∙ (ap (λ n. take n text) one ∙ sym (take_again end text)))
