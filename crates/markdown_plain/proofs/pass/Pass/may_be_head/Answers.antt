-- The first line of a paragraph, a lazy one, one after an alert's marker, one with a `|`, and one after definitions.
use Rattle.std.proofs.Common.{◌≡◌, ◌<◌, ℕ, List, length, arith, sym, ◌∙◌, ◌&&◌, ◌==◌, Some, None, if◌then◌else◌, codes}
use Rattle.std.proofs.Common.{true, false, nat_lt}
use Rattle.markdown_plain.proofs.Names.{and-false, or-false, or-true, nat_tests, begins_with, leading_space, left_from}
use Rattle.markdown_plain.proofs.Names.{Pass, Source, SourceLine}
use Rattle.std.proofs.lemmas.Bool.{not-true, not-false}
use Rattle.std.proofs.lemmas.Result.{IfOk-weaker}
use Rattle.markdown_block_rules.specs.TableLines.{is_first_after}
use Rattle.markdown_plain.specs.declared.containers.Reached.{Reached}
use Rattle.markdown_plain.specs.TableHeads.{IsLastLine}
use Rattle.markdown_plain.proofs.DelimiterRowsLemmas.{count_of, first_by_index, indent_again, last_after, led_by}
use Rattle.markdown_plain.proofs.DelimiterRowsLemmas.{may_else, second_left}
use Rattle.markdown_plain.proofs.pass.Pass.may_be_head.Goals.{else-before-eq1-via-then-before-eq1+else-index}
use Rattle.markdown_plain.proofs.pass.Pass.may_be_head.Goals.{else-before-eq1-via-else-before-eq1}
use Rattle.markdown_plain.proofs.pass.Pass.may_be_head.Goals.{else-columns-lt4-via-then-columns-lt4+else-eq}
use Rattle.markdown_plain.proofs.pass.Pass.may_be_head.Goals.{else-columns-lt4-via-else-columns-lt4}
use Rattle.markdown_plain.proofs.pass.Pass.may_be_head.Goals.{After-reach-reached, After-read_space-columns}
use Rattle.markdown_plain.proofs.pass.Pass.may_be_head.Goals as goal

pub returns-then-before-eq0-clause-value : goal.returns-then-before-eq0-clause-value
returns-then-before-eq0-clause-value c = λ s before from is.
    let none : length before ≡ 0 =
    omega (arith, count_of is, c.len.ensures, c.saturating_sub-before.ensures, c.if-before-eq0.true) in
    rw none

-- of a line after others: how many these are, and its columns of space, as they are found out again
record IsLater (pass : Pass) (number : ℕ) (result : Reached) (stop : ℕ) (before : List SourceLine) (from : SourceLine)
    : Type 0 where
  size : number ≡ length before
  more : 0 < length before
  indent : from.indent ≡ (if result.all
      then Some (leading_space 4 (left_from pass.placing.builder.text result.position stop)).columns else None)

later : (c : After-reach-reached) {s : Source} {before : List SourceLine} {from : SourceLine}
    → IsLastLine s c.args.self.now c.args.head before from
    → IsLater c.args.self.now c.saturating_sub-before.result c.reach-reached.result c.args.head.stop before from
later c {s} {before} is =
    let size : c.saturating_sub-before.result ≡ length before =
    omega (arith, count_of is, c.len.ensures, c.saturating_sub-before.ensures) in
    let more : 0 < length before = omega (arith, size, c.if-before-eq0.false) in
    record {
      size = size;
      more = more;
      indent = indent_again is _ _ more (rw size at c.index.ensures) c.reach-reached.ensures.frames;
    }

pub returns-then-not-reached-clause-value : goal.returns-then-not-reached-clause-value
returns-then-not-reached-clause-value c = λ s before from is.
    let known = later (goal.at.returns-then-not-reached-clause-value c).After-reach-reached is in
    let some : (length before == 0) ≡ false = grind (arith, nat_tests, known.more) in
    rw (some, known.indent, not-true c.reach-reached.result.all c.if-not-reached.true)

pub returns-then-not-reached-clause-tried : goal.returns-then-not-reached-clause-tried
returns-then-not-reached-clause-tried c = λ s before from is _.
    let known = later (goal.at.returns-then-not-reached-clause-tried c).After-reach-reached is in
    rw (known.indent, not-true c.reach-reached.result.all c.if-not-reached.true, or-false)

pub returns-then-index-clause-value : goal.returns-then-index-clause-value
returns-then-index-clause-value c = λ s before from is.
    let known = later (goal.at.returns-then-index-clause-value c).After-reach-reached is in
    let first : is_first_after before ≡ true = first_by_index _ _ before from _ _ is.lines
    c.index-then-before-eq1.ensures c.index-then-before-eq1-2.ensures (omega (arith, known.size, c.if-before-eq1.true))
    ∙ grind (arith, nat_tests, c.if-index.true) in
    let indent = rw (not-false c.reach-reached.result.all c.if-not-reached.false) at known.indent in
    rw (may_else is known.more indent, first)

indented : (c : After-read_space-columns) {before : List SourceLine} {from : SourceLine}
    → IsLater c.args.self.now c.saturating_sub-before.result c.reach-reached.result c.args.head.stop before from
    → from.indent ≡ Some c.read_space-columns.result.columns
indented c known = rw (c.read_space-columns.ensures.value.columns, c.text-text.ensures)
    (rw (not-false c.reach-reached.result.all c.if-not-reached.false) at known.indent)

pub returns-then-eq-clause-value : goal.returns-then-eq-clause-value
returns-then-eq-clause-value c = λ s before from is.
    let here = goal.at.returns-then-eq-clause-value c in let known = later here.After-reach-reached is in
    let near : nat_lt c.read_space-columns.result.columns 4 ≡ true = grind (arith, nat_tests, c.if-columns-lt4.true) in
    let led : begins_with (codes "|") from.left.bytes ≡ true =
    sym (led_by ((last_after is).filled known.more))
    ∙ rw (← c.text-text.ensures, ← c.byte_at.ensures, ← c.eq.ensures) c.if-eq.true in
    rw (may_else is known.more (indented here.After-read_space-columns known), near, led, or-true)

pub returns-clause-value : goal.returns-clause-value
returns-clause-value c = IfOk-weaker c.is_after_definitions.result _ _ (λ found found_so s before from is.
    let here = goal.at.returns-clause-value c in let known = later here.After-reach-reached is in
    let last = last_after is in let filled = last.filled known.more in
    let first : is_first_after before ≡ false = elim c.else-before-eq1.branch [
      | else-before-eq1-via-then-before-eq1+else-index w ↦
          first_by_index _ _ before from _ _ is.lines w.index-then-before-eq1.ensures w.index-then-before-eq1-2.ensures
          (omega (arith, known.size, w.if-before-eq1.true)) ∙ grind (arith, nat_tests, w.if-index.false)
      | else-before-eq1-via-else-before-eq1 w ↦
          second_left _ _ before from is.lines (omega (arith, known.size, known.more, w.if-before-eq1.false))
    ] in
    let led : (nat_lt c.read_space-columns.result.columns 4 && begins_with (codes "|") from.left.bytes) ≡ false =
    elim c.else-columns-lt4.branch [
      | else-columns-lt4-via-then-columns-lt4+else-eq w ↦
          rw (← led_by filled, ← c.text-text.ensures, ← w.byte_at.ensures, ← w.eq.ensures, w.if-eq.false) (and-false _)
      | else-columns-lt4-via-else-columns-lt4 w ↦
          let far : nat_lt c.read_space-columns.result.columns 4 ≡ false =
          grind (arith, nat_tests, w.if-columns-lt4.false) in
          rw far
    ] in
    found_so before (rw known.size last.front)
    ∙ rw (may_else is known.more (indented here.After-read_space-columns known), first, led, is.tried, ← is.source))
    c.is_after_definitions.ensures.value

pub returns-clause-tried : goal.returns-clause-tried
returns-clause-tried c = IfOk-weaker c.is_after_definitions.result _ _ (λ found found_so s before from is _.
    let here = goal.at.returns-clause-tried c in
    let indent = indented here.After-read_space-columns (later here.After-reach-reached is) in
    rw (c.is_after_definitions.ensures.same, indent, or-true)) c.is_after_definitions.ensures.value
