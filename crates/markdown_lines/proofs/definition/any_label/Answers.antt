-- No label, one in a line, or one in several.
use Rattle.std.proofs.Common.{◌≡◌, ◌++◌, ◌<◌, arith, length, subst, List, ℕ, true, false, drop, slice_range, Option}
use Rattle.std.proofs.Common.{Some, None}
use Rattle.std.specs.Option.{option_map}
use Rattle.std.proofs.lemmas.Result.{IfOk-weaker}
use Rattle.markdown_scan.specs.LineStart.{is_line_over}
use Rattle.markdown_lines.specs.HeldLabels.{HasNoColon, IsLabelRead, label_of, label_read}
use Rattle.markdown_lines.specs.declared.definition.Label.{Label}
use Rattle.markdown_lines.specs.HeldLines.{IsBracketPlace}
use Rattle.markdown_lines.specs.HeldLines.{held_text}
use Rattle.markdown_lines.proofs.HeldLinesLemmas.{found_line}
use Rattle.markdown_lines.proofs.LabelReadLemmas.{defines_none, first_line, label_in_line}
use Rattle.markdown_lines.proofs.definition.any_label.Goals as goal

pub returns-then-not-may_define-clause-value : goal.returns-then-not-may_define-clause-value
returns-then-not-may_define-clause-value c =
    λ (bracket : IsBracketPlace c.args.text.now c.args.lines.now c.args.at).
    let text = c.args.text.now in
    let lines = c.args.lines.now in
    let line = c.in-Some.first.now in
    let look = c.in-Some.ensures.item in
    let is = first_line text lines c.args.at c.saturating_add.result line c.part_of-source.result.now c.utf8.text
    (λ (less : c.args.at < length text). omega (arith, less, c.saturating_add.ensures))
    (found_line lines 0 line (omega arith) look.1)
    c.part_of-source.ensures bracket in
    defines_none text lines c.part_of-source.result.now
    (slice_range text line.stop line.next ++ held_text text (drop 1 lines))
    (subst (λ (xs : List ℕ). (more : List ℕ) → is_line_over more ≡ true → HasNoColon false (xs ++ more))
    c.as_bytes.ensures.value (c.may_define.ensures c.if-not-may_define.true)) is

pub returns-in-Some-2-clause-value : goal.returns-in-Some-2-clause-value
returns-in-Some-2-clause-value c =
    λ (bracket : IsBracketPlace c.args.text.now c.args.lines.now c.args.at).
    let text = c.args.text.now in
    let lines = c.args.lines.now in
    let line = c.in-Some.first.now in
    let look = c.in-Some.ensures.item in
    let is = first_line text lines c.args.at c.saturating_add.result line c.part_of-source.result.now c.utf8.text
    (λ (less : c.args.at < length text). omega (arith, less, c.saturating_add.ensures))
    (found_line lines 0 line (omega arith) look.1)
    c.part_of-source.ensures bracket in
    label_in_line text lines c.part_of-source.result.now
    (slice_range text line.stop line.next ++ held_text text (drop 1 lines))
    (record { text = c.in-Some-2.label; length = c.in-Some-2.length })
    (rw c.in-Some-2.is at c.in_ok-length.ensures.value) is

-- a label that was looked for is read
read : (bytes : List ℕ) (found : Option Label) → option_map label_read found ≡ label_of bytes → IsLabelRead bytes found
read bytes None is = rw (← is) tt
read bytes (Some label) is = is

pub returns-clause-value : goal.returns-clause-value
returns-clause-value c =
    IfOk-weaker c.long_label.result _ _
    (λ (found : Option Label)
    (is : IsBracketPlace c.args.text.now c.args.lines.now c.args.at
    → option_map label_read found ≡ label_of (drop 1 (held_text c.args.text.now c.args.lines.now)))
    (bracket : IsBracketPlace c.args.text.now c.args.lines.now c.args.at).
    read (drop 1 (held_text c.args.text.now c.args.lines.now)) found (is bracket)) c.long_label.ensures.value
