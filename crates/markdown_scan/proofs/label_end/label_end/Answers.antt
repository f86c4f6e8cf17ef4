use Rattle.std.proofs.Common.{◌+◌, ◌<◌, count_by, drop, sym, ◌∙◌, ap, arith, false, length-drop, None, Some}
use Rattle.std.proofs.Common.{if◌then◌else◌}
use Rattle.std.proofs.lemmas.List.{take_rest, drop-drop}
use Rattle.markdown_scan.specs.Label.{begins_character}
use Rattle.markdown_scan.specs.LabelScan.{byte_shown, end_after, found_in}
use Rattle.markdown_scan.proofs.DestinationLemmas.{drop_next}
use Rattle.markdown_scan.proofs.LabelLemmas.{closed_here, end_step, opened_here, refused_here, too_long}
use Rattle.markdown_scan.proofs.label_end.label_end.Goals as goal

pub returns-then-characters-gt-MAX_LABEL_CHARACTERS-clause-value
    : goal.returns-then-characters-gt-MAX_LABEL_CHARACTERS-clause-value
returns-then-characters-gt-MAX_LABEL_CHARACTERS-clause-value g c =
    let within = c.in-Some-prefix_after.ensures.within in
    let split = c.in-Some.ensures.cases in
    let skipped = g.R.LineRule.skipped c.args.rule.now in
    let many : 999 < c.loop-first.characters + c.characters_shown-characters.result = omega arith in
    let more = rw (c.characters_shown-characters.ensures.value, take_rest) at many in
    too_long (c.loop-first.at + 1 + c.in-Some-prefix_after.skipped) (c.loop-first.characters
    + count_by begins_character (byte_shown c.args.in_table c.in-Some.first.now
    (drop c.in-Some-prefix_after.skipped c.in-Some.tail.now))) _ _ more
    ∙ sym (end_step (end_after 0 0 false (found_in skipped c.args.in_table false c.args.bytes.now))
    skipped c.args.in_table c.loop-first.escaped c.loop-first.solid c.loop-first.at c.loop-first.characters
    c.in-Some.first.now
    c.in-Some.tail.now c.in-Some-prefix_after.skipped
    (rw split.0 at c.loop-first.invariant.value) (sym c.is_bare.ensures ∙ c.if-is_bare.false)
    (sym c.is_bare-in-Some.ensures
    ∙ c.if-is_bare-2.false) (sym c.in-Some-prefix_after.ensures.value) within)

pub loop-first-preserved : goal.loop-first-preserved
loop-first-preserved g c =
    let within = c.in-Some-prefix_after.ensures.within in
    let split = c.in-Some.ensures.cases in
    let invariant = c.loop-first.invariant in
    let next = drop_next c.args.bytes.now c.in-Some.tail.now c.loop-first.at c.in-Some.first.now
    (sym split.0 ∙ invariant.here) in
    record {
      sum = rw (take_rest, length-drop) (omega (arith, within, split.1, invariant.sum));
      here = rw (take_rest, next) (drop-drop c.in-Some-prefix_after.skipped (c.loop-first.at + 1) c.args.bytes.now);
      few = omega arith;
      value = rw (
        c.characters_shown-characters.ensures.value,
        c.solid_after-solid.ensures,
        c.is_bare-escaped.ensures,
        take_rest,
      ) (
          end_step (end_after 0 0 false
          (found_in (g.R.LineRule.skipped c.args.rule.now) c.args.in_table false c.args.bytes.now))
          (g.R.LineRule.skipped c.args.rule.now) c.args.in_table c.loop-first.escaped c.loop-first.solid c.loop-first.at
          c.loop-first.characters c.in-Some.first.now c.in-Some.tail.now c.in-Some-prefix_after.skipped
          (rw split.0 at invariant.value) (sym c.is_bare.ensures ∙ c.if-is_bare.false) (sym c.is_bare-in-Some.ensures
          ∙ c.if-is_bare-2.false) (sym c.in-Some-prefix_after.ensures.value) within);
    }

pub returns-then-solid-clause-value : goal.returns-then-solid-clause-value
returns-then-solid-clause-value g c =
    ap (λ solid. if solid then Some c.loop-first.at else None) (sym c.if-solid.true) ∙ closed_here
    (end_after 0 0 false (found_in (g.R.LineRule.skipped c.args.rule.now) c.args.in_table false c.args.bytes.now))
    (g.R.LineRule.skipped c.args.rule.now) c.args.in_table c.loop-first.escaped c.loop-first.solid c.loop-first.at
    c.loop-first.characters c.in-Some.first.now c.in-Some.tail.now
    (rw c.in-Some.ensures.cases.0 at c.loop-first.invariant.value)
    (sym c.is_bare.ensures ∙ c.if-is_bare.true) c.loop-first.invariant.few

pub returns-else-solid-clause-value : goal.returns-else-solid-clause-value
returns-else-solid-clause-value g c =
    ap (λ solid. if solid then Some c.loop-first.at else None) (sym c.if-solid.false) ∙ closed_here
    (end_after 0 0 false (found_in (g.R.LineRule.skipped c.args.rule.now) c.args.in_table false c.args.bytes.now))
    (g.R.LineRule.skipped c.args.rule.now) c.args.in_table c.loop-first.escaped c.loop-first.solid c.loop-first.at
    c.loop-first.characters c.in-Some.first.now c.in-Some.tail.now
    (rw c.in-Some.ensures.cases.0 at c.loop-first.invariant.value)
    (sym c.is_bare.ensures ∙ c.if-is_bare.true) c.loop-first.invariant.few

pub returns-then-is_bare-2-clause-value : goal.returns-then-is_bare-2-clause-value
returns-then-is_bare-2-clause-value g c =
    opened_here
    (end_after 0 0 false (found_in (g.R.LineRule.skipped c.args.rule.now) c.args.in_table false c.args.bytes.now))
    (g.R.LineRule.skipped c.args.rule.now) c.args.in_table c.loop-first.escaped c.loop-first.solid c.loop-first.at
    c.loop-first.characters c.in-Some.first.now c.in-Some.tail.now
    (rw c.in-Some.ensures.cases.0 at c.loop-first.invariant.value)
    (sym c.is_bare.ensures ∙ c.if-is_bare.false) (sym c.is_bare-in-Some.ensures ∙ c.if-is_bare-2.true)

pub returns-in_default-prefix_after-clause-value : goal.returns-in_default-prefix_after-clause-value
returns-in_default-prefix_after-clause-value g c =
    refused_here
    (end_after 0 0 false (found_in (g.R.LineRule.skipped c.args.rule.now) c.args.in_table false c.args.bytes.now))
    (g.R.LineRule.skipped c.args.rule.now) c.args.in_table c.loop-first.escaped c.loop-first.solid c.loop-first.at
    c.loop-first.characters c.in-Some.first.now c.in-Some.tail.now
    (rw c.in-Some.ensures.cases.0 at c.loop-first.invariant.value)
    (sym c.is_bare.ensures ∙ c.if-is_bare.false) (sym c.is_bare-in-Some.ensures ∙ c.if-is_bare-2.false)
    (sym {a = None} c.in_default-prefix_after.ensures.value)
