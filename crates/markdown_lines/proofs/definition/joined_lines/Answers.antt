-- A line closes the label, too many bytes are joined, the lines end, or the label goes on.
use Rattle.std.proofs.Common.{◌∙◌, ◌<◌, ◌≤◌, sym, ap, arith, length, subst, List, ℕ, false}
use Rattle.std.proofs.lemmas.Option.{slice_get_past}
use Rattle.std.specs.Str.{IsUtf8}
use Rattle.std.specs.String.{string_bytes}
use Rattle.markdown_lines.specs.HeldLabels.{IsDecided, LabelGoesOn, escaped_after, label_of}
use Rattle.markdown_lines.specs.HeldLines.{IsBracketPlace}
use Rattle.markdown_lines.proofs.HeldLinesLemmas.{found_line, no_line}
use Rattle.markdown_lines.proofs.JoinedLabelLemmas.{JoinsLabel, joined_all, joined_decided, joined_long, joins_first}
use Rattle.markdown_lines.proofs.JoinedLabelLemmas.{joins_next, part_of_rest}
use Rattle.markdown_lines.proofs.definition.joined_lines.Goals.{then-closes_label-via-then-closes_label}
use Rattle.markdown_lines.proofs.definition.joined_lines.Goals.{
  then-closes_label-via-else-closes_label+then-as_bytes-gt4000,
}
use Rattle.markdown_lines.proofs.definition.joined_lines.Goals as goal

pub lines-init : goal.lines-init
lines-init c =
    λ (is : IsBracketPlace c.args.text.now c.args.lines.now c.args.at).
    subst (λ (xs : List ℕ). JoinsLabel c.args.text.now c.args.lines.now xs
    (record { line = 0; at = c.saturating_add.result })) (sym c.new-joined.ensures.bytes)
    (joins_first c.args.text.now c.args.lines.now c.args.at c.saturating_add.result c.utf8.text
    (λ (less : c.args.at < length c.args.text.now). omega (arith, less, c.saturating_add.ensures)) is)

pub returns-then-closes_label : goal.returns-then-closes_label
returns-then-closes_label c =
    λ (is : IsBracketPlace c.args.text.now c.args.lines.now c.args.at).
    let text = c.args.text.now in
    let lines = c.args.lines.now in
    let from = c.lines.from in
    let part = c.part_of-part.result.now in
    let look = c.in-Some.ensures.lookup in
    let there = found_line lines from.line c.in-Some.line.now (omega arith) look.1 in
    let so_far = c.lines.invariant is in
    let has = part_of_rest text lines from c.in-Some.line.now part c.utf8.text there c.part_of-part.ensures
    so_far.place in
    ap label_of c.in_ok-push_str.ensures.bytes
    ∙ (elim c.then-closes_label.branch [
      | then-closes_label-via-then-closes_label w ↦ joined_decided text lines (string_bytes c.lines.joined) part _ from
          so_far has
          (subst (λ (xs : List ℕ). IsDecided xs) c.as_bytes.ensures.value
          (c.closes_label.ensures.closed w.if-closes_label.true))
      | then-closes_label-via-else-closes_label+then-as_bytes-gt4000 w ↦
          let text_is = w.as_str.ensures.value ∙ c.in_ok-push_str.ensures.bytes in
          let size = ap length (w.as_bytes-else-closes_label.ensures.value ∙ text_is) in
          joined_long text lines (string_bytes c.lines.joined) part _ from _
          (subst (λ (xs : List ℕ). IsUtf8 xs) text_is w.as_str.utf8) (omega (arith, size, w.if-as_bytes-gt4000.true))
          so_far has
          (subst (λ (xs : List ℕ). LabelGoesOn xs (escaped_after false xs)) c.as_bytes.ensures.value
          (c.closes_label.ensures.open w.if-closes_label.false))
    ])

pub returns-in_default-next_line : goal.returns-in_default-next_line
returns-in_default-next_line c =
    λ (is : IsBracketPlace c.args.text.now c.args.lines.now c.args.at).
    let text = c.args.text.now in
    let lines = c.args.lines.now in
    let from = c.lines.from in
    let part = c.part_of-part.result.now in
    let look = c.in-Some.ensures.lookup in
    let there = found_line lines from.line c.in-Some.line.now (omega arith) look.1 in
    let so_far = c.lines.invariant is in
    ap label_of c.in_ok-push_str.ensures.bytes
    ∙ joined_all text lines (string_bytes c.lines.joined) part from so_far
    (part_of_rest text lines from c.in-Some.line.now part c.utf8.text there c.part_of-part.ensures so_far.place)
    c.in_default-next_line.ensures

pub lines-preserved : goal.lines-preserved
lines-preserved c =
    λ (is : IsBracketPlace c.args.text.now c.args.lines.now c.args.at).
    let text = c.args.text.now in
    let lines = c.args.lines.now in
    let from = c.lines.from in
    let part = c.part_of-part.result.now in
    let look = c.in-Some.ensures.lookup in
    let there = found_line lines from.line c.in-Some.line.now (omega arith) look.1 in
    subst (λ (xs : List ℕ). JoinsLabel text lines xs c.in-Some-next_line.next)
    (sym c.in_ok-push_str.ensures.bytes)
    (joins_next text lines (string_bytes c.lines.joined) part from c.in-Some.line.now c.in-Some-next_line.next
    c.utf8.text there c.in-Some-next_line.ensures c.part_of-part.ensures
    (subst (λ (xs : List ℕ). LabelGoesOn xs (escaped_after false xs)) c.as_bytes.ensures.value
    (c.closes_label.ensures.open c.if-closes_label.false)) (c.lines.invariant is))

pub returns : goal.returns
returns c =
    λ (is : IsBracketPlace c.args.text.now c.args.lines.now c.args.at).
    let look = c.in_default.ensures.lookup in
    let past : length c.args.lines.now ≤ c.lines.from.line = omega arith in
    absurd (no_line c.args.text.now c.args.lines.now c.lines.from
    (slice_get_past c.args.lines.now c.lines.from.line past) (c.lines.invariant is).place)
